-- In an exact kind: what a fact of one Between becomes when told another.
use Rattle.std.proofs.Common.{◌≡◌, true, false, ℤ, ◌≤ℤ◌, sym, refl, ◌∙◌, subst, ap₂, arith}
use Rattle.std.proofs.lemmas.Int.{ints, clamps}
use Rattle.std.proofs.lemmas.Bool.{and_from, and_parts, false_from_ne_true}
use Rattle.statements.specs.Numbers.{top, bottom, InU, raised, lowered}
use Rattle.statements.specs.declared.statement.Statement.TheVariants.{Between}
use Rattle.statements.proofs.Tests.{test_cases, inside_made, inside_of}
use Rattle.facts.specs.Model.{Model}
use Rattle.facts.specs.Laws.{Laws, Exact}
use Rattle.facts.specs.Derived.{low, high, none, tidy, dead, told}
use Rattle.facts.proofs.Order.{low_le, high_ge, none_no, low-allowed, high-allowed, low_none, high_none, meet-least, between_mono, dead-tells}

module _ {F : Type 0} (m : Model F) (l : Laws m) (exact : Exact m) where
  -- The fact that a number is lo to hi.
  abbrev pub B : ℤ → ℤ → F
  B lo hi = m.stated (Between lo hi)

  pub allows_made : (lo hi n : ℤ) → InU n → lo ≤ℤ n → n ≤ℤ hi → m.allows (B lo hi) n ≡ true
  allows_made lo hi n u p q = let a = u.0 in let b = u.1 in exact lo hi n ∙ inside_made (raised lo) (lowered hi) n (omega (arith, ints, clamps)) (omega (arith, ints, clamps))

  pub allows_of : (lo hi n : ℤ) → m.allows (B lo hi) n ≡ true → (lo ≤ℤ n) × (n ≤ℤ hi)
  allows_of lo hi n e =
      let r = inside_of (raised lo) (lowered hi) n (sym (exact lo hi n) ∙ e) in
      let a = r.0 in let b = r.1 in
      (omega (arith, ints, clamps), omega (arith, ints, clamps))

  -- The lowest and the highest of a fact, by what it allows.
  pub low_is : (f : F) (n : ℤ) → m.allows f n ≡ true → ((k : ℤ) → m.allows f k ≡ true → n ≤ℤ k) → low m f ≡ n
  low_is f n e h = let a = low_le m l f n e in let b = h (low m f) (low-allowed m l f (none_no m l f n e)) in omega (arith, ints)

  pub high_is : (f : F) (n : ℤ) → m.allows f n ≡ true → ((k : ℤ) → m.allows f k ≡ true → k ≤ℤ n) → high m f ≡ n
  high_is f n e h = let a = high_ge m l f n e in let b = h (high m f) (high-allowed m l f (none_no m l f n e)) in omega (arith, ints)

  -- lo to hi is a stretch of U.
  abbrev pub Stretch : ℤ → ℤ → Type 0
  Stretch lo hi = (bottom ≤ℤ lo) × (lo ≤ℤ hi) × (hi ≤ℤ top)

  low_in : (lo hi : ℤ) → Stretch lo hi → InU lo
  low_in lo hi s = let a = s.0 in let b = s.1 in let c = s.2 in (omega (arith, ints), omega (arith, ints))

  high_in : (lo hi : ℤ) → Stretch lo hi → InU hi
  high_in lo hi s = let a = s.0 in let b = s.1 in let c = s.2 in (omega (arith, ints), omega (arith, ints))

  le_self : (n : ℤ) → n ≤ℤ n
  le_self n = omega (arith, ints)

  pub between-low : (lo hi : ℤ) → Stretch lo hi → low m (B lo hi) ≡ lo
  between-low lo hi s = low_is (B lo hi) lo (allows_made lo hi lo (low_in lo hi s) (le_self lo) s.1) (λ k e. (allows_of lo hi k e).0)

  pub between-high : (lo hi : ℤ) → Stretch lo hi → high m (B lo hi) ≡ hi
  between-high lo hi s = high_is (B lo hi) hi (allows_made lo hi hi (high_in lo hi s) s.1 (le_self hi)) (λ k e. (allows_of lo hi k e).1)

  pub between_none : (lo hi : ℤ) → Stretch lo hi → none m (B lo hi) ≡ false
  between_none lo hi s = none_no m l (B lo hi) lo (allows_made lo hi lo (low_in lo hi s) (le_self lo) s.1)

  pub between-tidy : (lo hi : ℤ) → Stretch lo hi → tidy m (B lo hi) ≡ B lo hi
  unfolding tidy
  between-tidy lo hi s = ap₂ (λ x y. m.meet (B lo hi) (B x y)) (between-low lo hi s) (between-high lo hi s) ∙ l.meet_idem (B lo hi)

  -- a to b told c to d is lo to hi, where these are the numbers in both.
  pub told_both : (a b c d lo hi : ℤ) → Stretch lo hi → a ≤ℤ lo → c ≤ℤ lo → hi ≤ℤ b → hi ≤ℤ d →
      ((k : ℤ) → a ≤ℤ k → k ≤ℤ b → c ≤ℤ k → k ≤ℤ d → (lo ≤ℤ k) × (k ≤ℤ hi)) → told m (B c d) (B a b) ≡ B lo hi
  unfolding told tidy
  told_both a b c d lo hi s p q r t only =
      let f = B a b in
      let g = B c d in
      let x = m.meet f g in
      let yes : (n : ℤ) → InU n → a ≤ℤ n → n ≤ℤ b → c ≤ℤ n → n ≤ℤ d → m.allows x n ≡ true =
      λ n u p₁ p₂ p₃ p₄. l.meet_allows f g n ∙ and_from _ _ (allows_made a b n u p₁ p₂) (allows_made c d n u p₃ p₄) in
      let both : (n : ℤ) → m.allows x n ≡ true → (lo ≤ℤ n) × (n ≤ℤ hi) =
      λ n e.
      let parts = and_parts (m.allows f n) (m.allows g n) (sym (l.meet_allows f g n) ∙ e) in
      only n (allows_of a b n parts.0).0 (allows_of a b n parts.0).1 (allows_of c d n parts.1).0 (allows_of c d n parts.1).1 in
      let s₁ = s.1 in
      let lows : low m x ≡ lo = low_is x lo (yes lo (low_in lo hi s) p (omega (arith, ints)) q (omega (arith, ints))) (λ n e. (both n e).0) in
      let highs : high m x ≡ hi = high_is x hi (yes hi (high_in lo hi s) (omega (arith, ints)) r (omega (arith, ints)) t) (λ n e. (both n e).1) in
      ap₂ (λ y z. m.meet x (B y z)) lows highs
      ∙ (l.meet_comm x (B lo hi) ∙ meet-least m l (B lo hi) f g (between_mono m l lo hi a b p r) (between_mono m l lo hi c d q t))

  none_made : (f : F) → ((n : ℤ) → m.allows f n ≡ true → ⊥) → none m f ≡ true
  none_made f h = test_cases {P = none m f ≡ true} (none m f) (λ e. e) (λ e. absurd (h (low m f) (low-allowed m l f e)))

  -- a to b told c to d is dead, where no number is in both.
  pub told_neither : (a b c d : ℤ) → ((k : ℤ) → a ≤ℤ k → k ≤ℤ b → c ≤ℤ k → k ≤ℤ d → ⊥) → told m (B c d) (B a b) ≡ dead m
  unfolding told tidy dead
  told_neither a b c d nobody =
      let f = B a b in
      let g = B c d in
      let x = m.meet f g in
      let void : none m x ≡ true =
      none_made x (λ n e.
      let parts = and_parts (m.allows f n) (m.allows g n) (sym (l.meet_allows f g n) ∙ e) in
      nobody n (allows_of a b n parts.0).0 (allows_of a b n parts.0).1 (allows_of c d n parts.1).0 (allows_of c d n parts.1).1) in
      ap₂ (λ y z. m.meet x (B y z)) (low_none m l x void) (high_none m l x void) ∙ (l.meet_comm x (dead m) ∙ dead-tells m l x)

  pub dead_none : none m (dead m) ≡ true
  unfolding dead
  dead_none = none_made (dead m) (λ n e. let r = allows_of top bottom n e in let a = r.0 in let b = r.1 in omega (arith, ints))

  -- Facts that differ at a number are not equal.
  pub equal_no : (f g : F) (n : ℤ) → m.allows f n ≡ true → (m.allows g n ≡ true → ⊥) → m.equal f g ≡ false
  equal_no f g n p q = false_from_ne_true (m.equal f g) (λ e. q (subst (λ z. m.allows z n ≡ true) ((l.equal_decides f g).0 e) p))

  pub equal_no_right : (f g : F) (n : ℤ) → (m.allows f n ≡ true → ⊥) → m.allows g n ≡ true → m.equal f g ≡ false
  equal_no_right f g n p q = false_from_ne_true (m.equal f g) (λ e. p (subst (λ z. m.allows z n ≡ true) (sym ((l.equal_decides f g).0 e)) q))

  pub equal_yes : (f : F) → m.equal f f ≡ true
  equal_yes f = (l.equal_decides f f).1 refl
