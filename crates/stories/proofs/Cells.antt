-- The cells of the two histories, and what firing makes of each.
use Rattle.std.proofs.Common.{◌≡◌, ℕ, Bool, true, false, ℤ, pos, ◌+ℤ◌, ◌-ℤ◌, ◌≤ℤ◌, ◌<ℤ◌, sym, refl, ap, ◌∙◌, ap₂, arith}
use lib.Signed.{lt_z}
use Rattle.std.proofs.lemmas.Int.{ints}
use Rattle.statements.specs.Numbers.{top, bottom, InU}
use Rattle.statements.specs.Statements.{allowed}
use Rattle.statements.specs.declared.statement.Statement.{Statement}
use Rattle.statements.specs.declared.statement.Statement.TheVariants.{Between}
use Rattle.statements.proofs.Searches.{least_from_le, least_from_ge, greatest_to_ge, greatest_to_le}
use Rattle.statements.proofs.Statements.{allowed_within}
use Rattle.facts.specs.Model.{Model}
use Rattle.facts.specs.Laws.{Laws, Exact}
use Rattle.facts.specs.Derived.{low, high, none, tidy, start, dead, told}
use Rattle.forms.specs.Tells.{up, down}
use Rattle.telling.specs.Reasons.{together}
use Rattle.telling.specs.Tables.{Cell, Table, start_cell}
use Rattle.telling.specs.Telling.{told_cell}
use Rattle.telling.specs.Firing.{fired}
use Rattle.calls.specs.Trails.{is_guess, without_guess}
use Rattle.stories.specs.Stories.{low_one, off_itself, high_one}
use Rattle.stories.proofs.Betweens.{B, allows_made, allows_of, Stretch, between-low, between-high, between_none, between-tidy, told_both, told_neither, dead_none, equal_no, equal_no_right, equal_yes}
use Rattle.stories.proofs.Steps.{mine, hers, told_cell_keeps, told_cell_new, state_clashes, state_tells, apart-rests, apart-clashes}

-- ---- numbers

-- From a number that a statement allows, its least up and its greatest down are that number.
up_itself : (s : Statement) (n : ℤ) → n ≤ℤ top → allowed s n ≡ true → up s n ≡ n
unfolding up
up_itself s n h e =
    let a = least_from_le (allowed s) (allowed_within s) (top +ℤ pos 1) n n (omega (arith, ints)) e in
    let b = least_from_ge (allowed s) (allowed_within s) (top +ℤ pos 1) n (omega (arith, ints)) in
    omega (arith, ints)

down_itself : (s : Statement) (n : ℤ) → bottom ≤ℤ n → allowed s n ≡ true → down s n ≡ n
unfolding down
down_itself s n h e =
    let a = greatest_to_ge (allowed s) (allowed_within s) (bottom -ℤ pos 1) n n (omega (arith, ints)) e in
    let b = greatest_to_le (allowed s) (allowed_within s) (bottom -ℤ pos 1) n (omega (arith, ints)) in
    omega (arith, ints)

up_0 : up (Between (pos 0) (pos 1)) (pos 0) ≡ pos 0
up_0 = up_itself (Between (pos 0) (pos 1)) (pos 0) (omega (arith, ints)) refl

up_1 : up (Between (pos 0) (pos 1)) (pos 1) ≡ pos 1
up_1 = up_itself (Between (pos 0) (pos 1)) (pos 1) (omega (arith, ints)) refl

down_0 : down (Between (pos 0) (pos 1)) (pos 0) ≡ pos 0
down_0 = down_itself (Between (pos 0) (pos 1)) (pos 0) (omega (arith, ints)) refl

down_1 : down (Between (pos 0) (pos 1)) (pos 1) ≡ pos 1
down_1 = down_itself (Between (pos 0) (pos 1)) (pos 1) (omega (arith, ints)) refl

in_u : (n : ℕ) → pos n ≤ℤ top → InU (pos n)
in_u n h = (omega (arith, ints), h)

module _ {F : Type 0} (m : Model F) (l : Laws m) (exact : Exact m) where
  -- ---- facts

  abbrev pub zero_one : F
  zero_one = B m l exact (pos 0) (pos 1)

  abbrev pub just_zero : F
  just_zero = B m l exact (pos 0) (pos 0)

  abbrev pub just_one : F
  just_one = B m l exact (pos 1) (pos 1)

  abbrev pub from_one : F
  from_one = B m l exact (pos 1) top

  s01 : Stretch m l exact (pos 0) (pos 1)
  s01 = (omega (arith, ints), omega (arith, ints), omega (arith, ints))

  s00 : Stretch m l exact (pos 0) (pos 0)
  s00 = (omega (arith, ints), omega (arith, ints), omega (arith, ints))

  s11 : Stretch m l exact (pos 1) (pos 1)
  s11 = (omega (arith, ints), omega (arith, ints), omega (arith, ints))

  one_to_most : Stretch m l exact (pos 1) top
  one_to_most = (omega (arith, ints), omega (arith, ints), omega (arith, ints))

  least_to_most : Stretch m l exact bottom top
  least_to_most = (omega (arith, ints), omega (arith, ints), omega (arith, ints))

  least_to_zero : Stretch m l exact bottom (pos 0)
  least_to_zero = (omega (arith, ints), omega (arith, ints), omega (arith, ints))

  s79 : Stretch m l exact (pos 7) (pos 9)
  s79 = (omega (arith, ints), omega (arith, ints), omega (arith, ints))

  pub start_live : none m (start m) ≡ false
  unfolding start
  start_live = between_none m l exact bottom top least_to_most

  pub zero_one_live : none m zero_one ≡ false
  zero_one_live = between_none m l exact (pos 0) (pos 1) s01

  pub just_zero_live : none m just_zero ≡ false
  just_zero_live = between_none m l exact (pos 0) (pos 0) s00

  pub just_one_live : none m just_one ≡ false
  just_one_live = between_none m l exact (pos 1) (pos 1) s11

  pub from_one_live : none m from_one ≡ false
  from_one_live = between_none m l exact (pos 1) top one_to_most

  start-zero_one : told m zero_one (start m) ≡ zero_one
  unfolding start
  start-zero_one = told_both m l exact bottom top (pos 0) (pos 1) (pos 0) (pos 1) s01 (omega (arith, ints)) (omega (arith, ints)) (omega (arith, ints)) (omega (arith, ints)) (λ k p q r t. (r, t))

  start-from_one : told m from_one (start m) ≡ from_one
  unfolding start
  start-from_one = told_both m l exact bottom top (pos 1) top (pos 1) top one_to_most (omega (arith, ints)) (omega (arith, ints)) (omega (arith, ints)) (omega (arith, ints)) (λ k p q r t. (r, t))

  -- A fact told what it says, or less, stays.
  told-less : (lo hi a b : ℤ) → Stretch m l exact lo hi → a ≤ℤ lo → hi ≤ℤ b → told m (B m l exact a b) (B m l exact lo hi) ≡ B m l exact lo hi
  told-less lo hi a b s p q = told_both m l exact lo hi a b lo hi s (omega (arith, ints)) p (omega (arith, ints)) q (λ k x y z w. (x, y))

  -- What the second tell of the first constraint says of a fact with these ends.
  cut_calm : (lo hi : ℤ) → Stretch m l exact lo hi → up (Between (pos 0) (pos 1)) lo ≡ lo → down (Between (pos 0) (pos 1)) hi ≡ hi →
      told m (m.stated (Between (up (Between (pos 0) (pos 1)) (low m (B m l exact lo hi))) (down (Between (pos 0) (pos 1)) (high m (B m l exact lo hi))))) (B m l exact lo hi) ≡ B m l exact lo hi
  cut_calm lo hi s p q =
      ap₂ (λ x y. told m (m.stated (Between x y)) (B m l exact lo hi))
      (ap (up (Between (pos 0) (pos 1))) (between-low m l exact lo hi s) ∙ p)
      (ap (down (Between (pos 0) (pos 1))) (between-high m l exact lo hi s) ∙ q)
      ∙ told-less lo hi lo hi s (omega (arith, ints)) (omega (arith, ints))

  not_dead : (lo hi : ℤ) → Stretch m l exact lo hi → m.equal (dead m) (B m l exact lo hi) ≡ false
  unfolding dead
  not_dead lo hi s =
      let a = s.0 in let b = s.1 in let c = s.2 in
      equal_no_right m l exact (dead m) (B m l exact lo hi) lo (λ e. let r = allows_of m l exact top bottom lo e in let x = r.0 in let y = r.1 in omega (arith, ints))
      (allows_made m l exact lo hi lo (omega (arith, ints), omega (arith, ints)) (omega (arith, ints)) b)

  -- One fact allows n and another does not.
  differ : (lo hi a b n : ℤ) → InU n → lo ≤ℤ n → n ≤ℤ hi → ((a ≤ℤ n) × (n ≤ℤ b) → ⊥) → m.equal (B m l exact lo hi) (B m l exact a b) ≡ false
  differ lo hi a b n u p q off = equal_no m l exact (B m l exact lo hi) (B m l exact a b) n (allows_made m l exact lo hi n u p q) (λ e. off (allows_of m l exact a b n e))

  differ_right : (lo hi a b n : ℤ) → InU n → a ≤ℤ n → n ≤ℤ b → ((lo ≤ℤ n) × (n ≤ℤ hi) → ⊥) → m.equal (B m l exact lo hi) (B m l exact a b) ≡ false
  differ_right lo hi a b n u p q off = equal_no_right m l exact (B m l exact lo hi) (B m l exact a b) n (λ e. off (allows_of m l exact lo hi n e)) (allows_made m l exact a b n u p q)

  tidy-equal : (f : F) (lo hi : ℤ) → Stretch m l exact lo hi → (t : Bool) → m.equal f (B m l exact lo hi) ≡ t → m.equal f (tidy m (B m l exact lo hi)) ≡ t
  tidy-equal f lo hi s t e = ap (m.equal f) (between-tidy m l exact lo hi s) ∙ e

  -- ---- cells

  -- 0 or 1, for premise 0.
  abbrev pub narrowed : Cell F
  narrowed = record { fact = zero_one; reasons = mine 0 }

  -- Nothing, for premises 0 and 2.
  abbrev pub clashed : Cell F
  clashed = record { fact = dead m; reasons = together (mine 0) (mine 2) }

  -- 0, for premise 0 and guess 0.
  abbrev pub tried : Cell F
  tried = record { fact = just_zero; reasons = together (mine 0) (is_guess 0) }

  -- Nothing, for premises 0 and 1 and guess 0.
  abbrev pub refuted : Cell F
  refuted = record { fact = dead m; reasons = together tried.reasons (hers tried.reasons) }

  -- At least 1, for the same without the guess.
  abbrev pub turned : Cell F
  turned = record { fact = from_one; reasons = without_guess 0 refuted.reasons }

  -- 1, for the same.
  abbrev pub pinned : Cell F
  pinned = record { fact = just_one; reasons = together turned.reasons (mine 0) }

  -- Nothing, for the same.
  abbrev pub ended : Cell F
  ended = record { fact = dead m; reasons = together pinned.reasons (hers pinned.reasons) }

  -- ---- what changed

  pub start-changed : m.equal (start m) zero_one ≡ false
  unfolding start
  start-changed = differ bottom top (pos 0) (pos 1) (pos 2) (in_u 2 (omega (arith, ints))) (omega (arith, ints)) (omega (arith, ints)) (λ h. let x = h.1 in omega (arith, ints))

  pub narrowed_changed : m.equal zero_one (dead m) ≡ false
  unfolding dead
  narrowed_changed = differ (pos 0) (pos 1) top bottom (pos 0) (in_u 0 (omega (arith, ints))) (omega (arith, ints)) (omega (arith, ints)) (λ h. let x = h.0 in omega (arith, ints))

  pub tried_changed : m.equal zero_one just_zero ≡ false
  tried_changed = differ (pos 0) (pos 1) (pos 0) (pos 0) (pos 1) (in_u 1 (omega (arith, ints))) (omega (arith, ints)) (omega (arith, ints)) (λ h. let x = h.1 in omega (arith, ints))

  pub refuted_changed : m.equal just_zero (dead m) ≡ false
  unfolding dead
  refuted_changed = differ (pos 0) (pos 0) top bottom (pos 0) (in_u 0 (omega (arith, ints))) (omega (arith, ints)) (omega (arith, ints)) (λ h. let x = h.0 in omega (arith, ints))

  pub turned_changed : m.equal (start m) from_one ≡ false
  unfolding start
  turned_changed = differ bottom top (pos 1) top (pos 0) (in_u 0 (omega (arith, ints))) (omega (arith, ints)) (omega (arith, ints)) (λ h. let x = h.0 in omega (arith, ints))

  pub pinned_changed : m.equal from_one just_one ≡ false
  pinned_changed = differ (pos 1) top (pos 1) (pos 1) (pos 2) (in_u 2 (omega (arith, ints))) (omega (arith, ints)) (omega (arith, ints)) (λ h. let x = h.1 in omega (arith, ints))

  pub ended_changed : m.equal just_one (dead m) ≡ false
  unfolding dead
  ended_changed = differ (pos 1) (pos 1) top bottom (pos 1) (in_u 1 (omega (arith, ints))) (omega (arith, ints)) (omega (arith, ints)) (λ h. let x = h.0 in omega (arith, ints))

  -- ---- firing

  pub start_narrows : (T : Table F) → T 0 ≡ start_cell m → fired m low_one T 0 ≡ narrowed
  unfolding start
  start_narrows T at =
      state_tells m l 0 (pos 0) (pos 1) T (start_cell m) narrowed at start_live
      (told_cell_new m l zero_one (mine 0) (start_cell m) zero_one true start-zero_one
      (differ_right (pos 0) (pos 1) bottom top (pos 2) (in_u 2 (omega (arith, ints))) (omega (arith, ints)) (omega (arith, ints)) (λ h. let x = h.1 in omega (arith, ints)))
      (tidy-equal zero_one (pos 0) (pos 1) s01 true (equal_yes m l exact zero_one)))
      zero_one_live (cut_calm (pos 0) (pos 1) s01 up_0 down_1)

  pub narrowed_stays : (T : Table F) → T 0 ≡ narrowed → fired m low_one T 0 ≡ narrowed
  narrowed_stays T at =
      state_tells m l 0 (pos 0) (pos 1) T narrowed narrowed at zero_one_live
      (told_cell_keeps m l zero_one (mine 0) narrowed (told-less (pos 0) (pos 1) (pos 0) (pos 1) s01 (omega (arith, ints)) (omega (arith, ints))))
      zero_one_live (cut_calm (pos 0) (pos 1) s01 up_0 down_1)

  pub narrowed_clashes : (T : Table F) → T 0 ≡ narrowed → fired m high_one T 0 ≡ clashed
  narrowed_clashes T at =
      state_clashes m l 2 (pos 7) (pos 9) T narrowed clashed at zero_one_live
      (told_cell_new m l (B m l exact (pos 7) (pos 9)) (mine 2) narrowed (dead m) false
      (told_neither m l exact (pos 0) (pos 1) (pos 7) (pos 9) (λ k p q r t. omega (arith, ints)))
      (not_dead (pos 0) (pos 1) s01)
      (tidy-equal (dead m) (pos 7) (pos 9) s79 false (not_dead (pos 7) (pos 9) s79)))
      (dead_none m l exact)

  pub tried_stays : (T : Table F) → T 0 ≡ tried → fired m low_one T 0 ≡ tried
  tried_stays T at =
      state_tells m l 0 (pos 0) (pos 1) T tried tried at just_zero_live
      (told_cell_keeps m l zero_one (mine 0) tried (told-less (pos 0) (pos 0) (pos 0) (pos 1) s00 (omega (arith, ints)) (omega (arith, ints))))
      just_zero_live (cut_calm (pos 0) (pos 0) s00 up_0 down_0)

  pub narrowed_rests : (T : Table F) → T 0 ≡ narrowed → fired m off_itself T 0 ≡ narrowed
  narrowed_rests T at =
      apart-rests m l T narrowed at zero_one_live
      (ap₂ (λ x y. lt_z x (y +ℤ pos 1)) (between-high m l exact (pos 0) (pos 1) s01) (between-low m l exact (pos 0) (pos 1) s01))

  pub tried_clashes : (T : Table F) → T 0 ≡ tried → fired m off_itself T 0 ≡ refuted
  tried_clashes T at =
      apart-clashes m l T tried at just_zero_live refuted
      (ap₂ (λ x y. lt_z x (y +ℤ pos 1)) (between-high m l exact (pos 0) (pos 0) s00) (between-low m l exact (pos 0) (pos 0) s00))
      (ap (λ x. told_cell m (m.stated (Between (x +ℤ pos 1) top)) (hers tried.reasons) tried) (between-low m l exact (pos 0) (pos 0) s00)
      ∙ told_cell_new m l from_one (hers tried.reasons) tried (dead m) false
      (told_neither m l exact (pos 0) (pos 0) (pos 1) top (λ k p q r t. omega (arith, ints)))
      (not_dead (pos 0) (pos 0) s00)
      (tidy-equal (dead m) (pos 1) top one_to_most false (not_dead (pos 1) top one_to_most)))
      (dead_none m l exact)

  pub turned_narrows : (T : Table F) → T 0 ≡ turned → fired m low_one T 0 ≡ pinned
  turned_narrows T at =
      state_tells m l 0 (pos 0) (pos 1) T turned pinned at from_one_live
      (told_cell_new m l zero_one (mine 0) turned just_one false
      (told_both m l exact (pos 1) top (pos 0) (pos 1) (pos 1) (pos 1) s11 (omega (arith, ints)) (omega (arith, ints)) (omega (arith, ints)) (omega (arith, ints)) (λ k p q r t. (p, t)))
      (differ_right (pos 1) (pos 1) (pos 1) top (pos 2) (in_u 2 (omega (arith, ints))) (omega (arith, ints)) (omega (arith, ints)) (λ h. let x = h.1 in omega (arith, ints)))
      (tidy-equal just_one (pos 0) (pos 1) s01 false
      (differ_right (pos 1) (pos 1) (pos 0) (pos 1) (pos 0) (in_u 0 (omega (arith, ints))) (omega (arith, ints)) (omega (arith, ints)) (λ h. let x = h.0 in omega (arith, ints)))))
      just_one_live (cut_calm (pos 1) (pos 1) s11 up_1 down_1)

  pub pinned_clashes : (T : Table F) → T 0 ≡ pinned → fired m off_itself T 0 ≡ ended
  pinned_clashes T at =
      apart-clashes m l T pinned at just_one_live ended
      (ap₂ (λ x y. lt_z x (y +ℤ pos 1)) (between-high m l exact (pos 1) (pos 1) s11) (between-low m l exact (pos 1) (pos 1) s11))
      (ap (λ x. told_cell m (m.stated (Between (x +ℤ pos 1) top)) (hers pinned.reasons) pinned) (between-low m l exact (pos 1) (pos 1) s11)
      ∙ told_cell_new m l (B m l exact (pos 2) top) (hers pinned.reasons) pinned (dead m) false
      (told_neither m l exact (pos 1) (pos 1) (pos 2) top (λ k p q r t. omega (arith, ints)))
      (not_dead (pos 1) (pos 1) s11)
      (tidy-equal (dead m) (pos 2) top two_to_most false (not_dead (pos 2) top two_to_most)))
      (dead_none m l exact)
    where
      two_to_most : Stretch m l exact (pos 2) top
      two_to_most = (omega (arith, ints), omega (arith, ints), omega (arith, ints))

  -- ---- the guess and the forced entry

  pub narrowed_tried : told_cell m (m.stated (Between bottom (low m zero_one))) (is_guess 0) narrowed ≡ tried
  narrowed_tried =
      ap (λ x. told_cell m (m.stated (Between bottom x)) (is_guess 0) narrowed) (between-low m l exact (pos 0) (pos 1) s01)
      ∙ told_cell_new m l (B m l exact bottom (pos 0)) (is_guess 0) narrowed just_zero false
      (told_both m l exact (pos 0) (pos 1) bottom (pos 0) (pos 0) (pos 0) s00 (omega (arith, ints)) (omega (arith, ints)) (omega (arith, ints)) (omega (arith, ints)) (λ k p q r t. (p, t)))
      (differ_right (pos 0) (pos 0) (pos 0) (pos 1) (pos 1) (in_u 1 (omega (arith, ints))) (omega (arith, ints)) (omega (arith, ints)) (λ h. let x = h.1 in omega (arith, ints)))
      (tidy-equal just_zero bottom (pos 0) least_to_zero false
      (differ_right (pos 0) (pos 0) bottom (pos 0) bottom (omega (arith, ints), omega (arith, ints)) (omega (arith, ints)) (omega (arith, ints)) (λ h. let x = h.0 in omega (arith, ints))))

  pub start_turned : told_cell m (m.stated (Between (low m zero_one +ℤ pos 1) top)) turned.reasons (start_cell m) ≡ turned
  unfolding start
  start_turned =
      ap (λ x. told_cell m (m.stated (Between (x +ℤ pos 1) top)) turned.reasons (start_cell m)) (between-low m l exact (pos 0) (pos 1) s01)
      ∙ told_cell_new m l from_one turned.reasons (start_cell m) from_one true start-from_one
      (differ_right (pos 1) top bottom top (pos 0) (in_u 0 (omega (arith, ints))) (omega (arith, ints)) (omega (arith, ints)) (λ h. let x = h.0 in omega (arith, ints)))
      (tidy-equal from_one (pos 1) top one_to_most true (equal_yes m l exact from_one))

  pub zero_one_wide : low m zero_one <ℤ high m zero_one
  zero_one_wide = let a = between-low m l exact (pos 0) (pos 1) s01 in let b = between-high m l exact (pos 0) (pos 1) s01 in omega (arith, ints)

  pub just_zero_one : low m just_zero ≡ high m just_zero
  just_zero_one = between-low m l exact (pos 0) (pos 0) s00 ∙ sym (between-high m l exact (pos 0) (pos 0) s00)
