-- The trail: what a guess number means, what a jump makes of it, and that its forced entries are true.
use Rattle.std.proofs.Common.{◌≡◌, ℕ, suc, ◌<◌, ◌≤◌, true, eqb, [], ◌∷◌, length, ℤ, ◌≤ℤ◌, Some, sym, refl, ap, ◌∙◌, subst, le_refl, arith}
use Rattle.std.proofs.lemmas.Bool.{cond_both, cond-true, cond-false, eqb-true, ne_eqb, ltb-true, lt-ltb}
use Rattle.statements.proofs.Tests.{test_cases}
use Rattle.plan.specs.Placements.{Placement, Premises}
use Rattle.telling.specs.Reasons.{premise, guess, Reasons, Among}
use Rattle.calls.specs.Networks.{Net}
use Rattle.calls.specs.Running.{premises_of}
use Rattle.calls.specs.Trails.{Entry, guessed, forced, Trail, guesses, guess_at, before, forcing}
use Rattle.laws.proofs.Numbered.{none_some, meets_fewer}
use Rattle.laws.proofs.Live.{at_hand, MeetsGuess, MeetsReasons}

pub guess_at_below : (g : ℕ) (t : Trail) (e : ℕ × ℤ) → guess_at g t ≡ Some e → g < guesses t
guess_at_below g [] e h = none_some e h
guess_at_below g (guessed c m ∷ es) e h =
    test_cases {P = g < suc (guesses es)} (eqb g (guesses es))
    (λ p. let q = eqb-true g (guesses es) p in omega arith)
    (λ p. let q = guess_at_below g es e (sym (cond-false (eqb g (guesses es)) (Some (c, m)) (guess_at g es) p) ∙ h) in omega arith)
guess_at_below g (forced c m r ∷ es) e h = guess_at_below g es e h

-- ---- a trail that begins as another does

-- The guesses of es mean the same in t.
pub record Sub (es t : Trail) : Type 0 where
  pub fewer : guesses es ≤ guesses t
  pub means : (j : ℕ) → j < guesses es → guess_at j t ≡ guess_at j es

pub sub_refl : (t : Trail) → Sub t t
sub_refl t = record { fewer = le_refl (guesses t); means = λ j lt. refl }

pub sub_tail : (e : Entry) (es t : Trail) → Sub (e ∷ es) t → Sub es t
sub_tail (guessed c m) es t s =
    let f = s.fewer in
    record {
      fewer = omega arith;
      means = λ j lt. s.means j (omega arith) ∙ cond-false (eqb j (guesses es)) (Some (c, m)) (guess_at j es) (ne_eqb j (guesses es) (λ p. omega arith));
    }
sub_tail (forced c m r) es t s = record { fewer = s.fewer; means = s.means }

pub sub_trans : (a b c : Trail) → Sub a b → Sub b c → Sub a c
sub_trans a b c p q =
    let f = p.fewer in let h = q.fewer in
    record { fewer = omega arith; means = λ j lt. q.means j (omega arith) ∙ p.means j lt }

-- ---- the trail before a guess

pub before_sub : (g : ℕ) (t : Trail) (e : ℕ × ℤ) → guess_at g t ≡ Some e → (guesses (before g t) ≡ g) × Sub (before g t) t
before_sub g [] e h = none_some e h
before_sub g (guessed c m ∷ es) e h =
    let whole = guessed c m ∷ es in
    cond_both (eqb g (guesses es)) es (before g es) (λ z. (guesses z ≡ g) × Sub z whole)
    (λ p. (sym (eqb-true g (guesses es) p), sub_tail (guessed c m) es whole (sub_refl whole)))
    (λ p.
    let r = before_sub g es e (sym (cond-false (eqb g (guesses es)) (Some (c, m)) (guess_at g es) p) ∙ h) in
    (r.0, sub_trans (before g es) es whole r.1 (sub_tail (guessed c m) es whole (sub_refl whole))))
before_sub g (forced c m r ∷ es) e h =
    let q = before_sub g es e h in
    (q.0, record { fewer = q.1.fewer; means = q.1.means })

pub before_shorter : (g : ℕ) (t : Trail) (e : ℕ × ℤ) → guess_at g t ≡ Some e → length (before g t) < length t
before_shorter g [] e h = none_some e h
before_shorter g (guessed c m ∷ es) e h =
    cond_both (eqb g (guesses es)) es (before g es) (λ z. length z < suc (length es))
    (λ p. omega arith)
    (λ p. let q = before_shorter g es e (sym (cond-false (eqb g (guesses es)) (Some (c, m)) (guess_at g es) p) ∙ h) in omega arith)
before_shorter g (forced c m r ∷ es) e h = let q = before_shorter g es e h in omega arith

-- ---- the trail with a forced entry

pub forcing-guesses : (c : ℕ) (m : ℤ) (r : Reasons) (t : Trail) → (guesses (forcing c m r t) ≡ guesses t) × ((j : ℕ) → guess_at j (forcing c m r t) ≡ guess_at j t)
forcing-guesses c m r [] = (refl, λ j. refl)
forcing-guesses c m r (guessed d n ∷ es) = (refl, λ j. refl)
forcing-guesses c m r (forced d n q ∷ es) =
    cond_both (eqb c d) (forced c m r ∷ es) (forced c m r ∷ forced d n q ∷ es) (λ z. (guesses z ≡ guesses es) × ((j : ℕ) → guess_at j z ≡ guess_at j es))
    (λ e. (refl, λ j. refl)) (λ e. (refl, λ j. refl))

pub forcing-length : (c : ℕ) (m : ℤ) (r : Reasons) (t : Trail) → length (forcing c m r t) ≤ suc (length t)
forcing-length c m r [] = omega arith
forcing-length c m r (guessed d n ∷ es) = omega arith
forcing-length c m r (forced d n q ∷ es) =
    cond_both (eqb c d) (forced c m r ∷ es) (forced c m r ∷ forced d n q ∷ es) (λ z. length z ≤ suc (suc (length es)))
    (λ e. omega arith) (λ e. omega arith)

-- ---- reasons, from one trail to another

pub at_hand_sub : (force : Premises) (es t : Trail) → Sub es t → Among (at_hand force es) (at_hand force t)
at_hand_sub force es t s (premise p) h = h
at_hand_sub force es t s (guess g) h = let f = s.fewer in let lt = ltb-true g (guesses es) h in lt-ltb g (guesses t) (omega arith)

-- The guesses among some reasons are open.
abbrev pub Opened : Trail → Reasons → Type 0
Opened t r = (g : ℕ) → r (guess g) ≡ true → g < guesses t

-- Guesses at hand are open.
pub at_hand_opened : (force : Premises) (t : Trail) (r : Reasons) → Among r (at_hand force t) → Opened t r
at_hand_opened force t r h g e = ltb-true g (guesses t) (h (guess g) e)

pub meets_longer : (N : Net) (v : Placement) (es t : Trail) (r : Reasons) → Sub es t → Opened es r → MeetsReasons N v es r → MeetsReasons N v t r
meets_longer N v es t r s o h = record { premises_met = h.premises_met; guesses_met = λ g e. subst (MeetsGuess v) (sym (s.means g (o g e))) (h.guesses_met g e) }

pub meets_shorter : (N : Net) (v : Placement) (es t : Trail) (r : Reasons) → Sub es t → Opened es r → MeetsReasons N v t r → MeetsReasons N v es r
meets_shorter N v es t r s o h = record { premises_met = h.premises_met; guesses_met = λ g e. subst (MeetsGuess v) (s.means g (o g e)) (h.guesses_met g e) }

-- A placement that meets reasons meets fewer.
pub meets-among : (N : Net) (v : Placement) (t : Trail) (r s : Reasons) → Among s r → MeetsReasons N v t r → MeetsReasons N v t s
meets-among N v t r s h k = record {
  premises_met = meets_fewer v (premises_of r) (premises_of s) N.constraints (λ p e. h (premise p) e) k.premises_met;
  guesses_met = λ g e. k.guesses_met g (h (guess g) e);
}

-- ---- forced entries are true

module _ (N : Net) (Sort : Placement → Type 0) (force : Premises) where
  -- The reasons are at hand, and in every placement that meets them the cell is at least m.
  pub record Sure (c : ℕ) (m : ℤ) (r : Reasons) (es : Trail) : Type 0 where
    pub scope : Among r (at_hand force es)
    pub holds : (v : Placement) → Sort v → MeetsReasons N v es r → m ≤ℤ v c

  -- An entry is about a cell of the network, and a forced one is true.
  abbrev pub TrueEntry : Entry → Trail → Type 0
  TrueEntry (guessed c m) es = c < N.cells
  TrueEntry (forced c m r) es = (c < N.cells) × Sure c m r es

  abbrev pub TrueTrail : Trail → Type 0
  TrueTrail [] = Unit {0}
  TrueTrail (e ∷ es) = TrueEntry e es × TrueTrail es

  pub before-true : (g : ℕ) (t : Trail) → TrueTrail t → TrueTrail (before g t)
  before-true g [] h = tt
  before-true g (guessed c m ∷ es) h = cond_both (eqb g (guesses es)) es (before g es) TrueTrail (λ p. h.1) (λ p. before-true g es h.1)
  before-true g (forced c m r ∷ es) h = before-true g es h.1

  sure_under : (c : ℕ) (m : ℤ) (r : Reasons) (d : ℕ) (n : ℤ) (q : Reasons) (es : Trail) → Sure c m r (forced d n q ∷ es) → Sure c m r es
  sure_under c m r d n q es s = record { scope = λ g e. under g (s.scope g e); holds = λ v P k. s.holds v P (record { premises_met = k.premises_met; guesses_met = k.guesses_met }) }
    where
      under : Among (at_hand force (forced d n q ∷ es)) (at_hand force es)
      under (premise p) h = h
      under (guess j) h = h

  pub forcing-true : (c : ℕ) (m : ℤ) (r : Reasons) (t : Trail) → c < N.cells → Sure c m r t → TrueTrail t → TrueTrail (forcing c m r t)
  forcing-true c m r [] lt s h = ((lt, s), h)
  forcing-true c m r (guessed d n ∷ es) lt s h = ((lt, s), h)
  forcing-true c m r (forced d n q ∷ es) lt s h =
      cond_both (eqb c d) (forced c m r ∷ es) (forced c m r ∷ forced d n q ∷ es) TrueTrail
      (λ e. ((lt, sure_under c m r d n q es s), h.1))
      (λ e. ((lt, s), h))

  -- A guess is about a cell of the network.
  pub guess-cell : (g : ℕ) (t : Trail) (c : ℕ) (m : ℤ) → TrueTrail t → guess_at g t ≡ Some (c, m) → c < N.cells
  guess-cell g [] c m h e = none_some (c, m) e
  guess-cell g (guessed d n ∷ es) c m h e =
      test_cases {P = c < N.cells} (eqb g (guesses es))
      (λ p. subst (λ z. z < N.cells) (cell_of (d, n) (c, m) (sym (cond-true (eqb g (guesses es)) (Some (d, n)) (guess_at g es) p) ∙ e)) h.0)
      (λ p. guess-cell g es c m h.1 (sym (cond-false (eqb g (guesses es)) (Some (d, n)) (guess_at g es) p) ∙ e))
    where
      cell_of : (a b : ℕ × ℤ) → Some a ≡ Some b → a.0 ≡ b.0
      cell_of a b same = let e : a ≡ b = cc in ap (λ (p : ℕ × ℤ). p.0) e
  guess-cell g (forced d n r ∷ es) c m h e = guess-cell g es c m h.1 e
