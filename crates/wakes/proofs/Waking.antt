-- Which constraints wait as one after another is put.
use Rattle.std.proofs.Common.{◌≡◌, ℕ, ◌+◌, ◌<◌, ◌≤◌, Bool, true, false, ◌&&◌, ◌||◌, eqb, ltb, List, length, get_or, take, Some, None, Option, sym, refl, ap, ◌∙◌, ⊎_elim, arith}
use mathlib.Core.Bool.{or-false, and_comm}
use Rattle.std.specs.List.{slice_get}
use Rattle.std.proofs.lemmas.List.{take_more, take_all}
use Rattle.std.proofs.lemmas.Option.{slice_get_read}
use Rattle.std.proofs.lemmas.Bool.{cases_eq, eq-eqb, ne_eqb, ltb-true, and_from, and_parts, and_right, or_left, or_right}
use Rattle.std.proofs.lemmas.Bool.Decides.{nat_tests}
use Rattle.sets.specs.Members.{Members, Joined, among, listed}
use Rattle.sets.proofs.Joining.{below_limit}
use Rattle.sets.proofs.Lists.{among_none, among_push, among_at, among-listed}
use Rattle.plan.specs.Placements.{Premises}
use Rattle.plan.specs.declared.constraint.Constraint.{Constraint}
use Rattle.calls.specs.Boards.{concerns}
use Rattle.calls.specs.Calls.{standing}
use Rattle.wakes.specs.Naming.{mentions, naming}
use Rattle.wakes.proofs.Naming.{nth_below}

-- Besides w, those wait that were looked at and pass f.
pub record Waking (w past f t : Members) : Type 0 where
  pub waits : (j : ℕ) → t j ≡ (w j || (past j && f j))

-- At first none was looked at.
pub waking_none : (w past f : Members) → ((j : ℕ) → past j ≡ false) → Waking w past f w
waking_none w past f none = record { waits = λ j. sym (ap (λ b. w j || (b && f j)) (none j) ∙ or-false (w j)) }

-- One more is looked at.
module _ {w past f u : Members} (before : Waking w past f u) (more : Members) (i : ℕ) (grown : (j : ℕ) → more j ≡ (eqb j i || past j)) where
  elsewhere : (j : ℕ) → (j ≡ i → ⊥) → (w j || (past j && f j)) ≡ (w j || (more j && f j))
  elsewhere j ne = ap (λ b. w j || (b && f j)) (sym (grown j ∙ ap (λ b. b || past j) (ne_eqb j i ne)))

  -- It passes and is put.
  pub waking_put : (t : Members) → i < 512 → f i ≡ true → Joined 512 u i t → Waking w more f t
  waking_put t l on joins = record { waits = λ j. joins j ∙ ap (λ b. b || u j) (below_limit 512 i j l) ∙ ⊎_elim (here j) (there j) (cases_eq j i) }
    where
      here : (j : ℕ) → j ≡ i → (eqb j i || u j) ≡ (w j || (more j && f j))
      here j e =
          or_left (eqb j i) (u j) (eq-eqb j i e)
          ∙ sym (or_right (w j) (more j && f j) (and_from (more j) (f j) (grown j ∙ or_left (eqb j i) (past j) (eq-eqb j i e)) (ap f e ∙ on)))

      there : (j : ℕ) → (j ≡ i → ⊥) → (eqb j i || u j) ≡ (w j || (more j && f j))
      there j ne = ap (λ b. b || u j) (ne_eqb j i ne) ∙ before.waits j ∙ elsewhere j ne

  -- It does not pass.
  pub waking_skip : f i ≡ false → Waking w more f u
  waking_skip off = record { waits = λ j. before.waits j ∙ ⊎_elim (here j) (elsewhere j) (cases_eq j i) }
    where
      here : (j : ℕ) → j ≡ i → (w j || (past j && f j)) ≡ (w j || (more j && f j))
      here j e = let no : f j ≡ false = ap f e ∙ off in ap (λ b. w j || b) (and_right (past j) (f j) no ∙ sym (and_right (more j) (f j) no))

-- A number below i + 1 is i or below i.
pub below_more : (i j : ℕ) → ltb j (i + 1) ≡ (eqb j i || ltb j i)
below_more i j = grind (arith, nat_tests)

-- The answer on a constraint that was read is that on its number.
pub nth_passes : (f : Option Constraint → Bool) (ks xs : List Constraint) (i : ℕ) (k : Constraint) (b : Bool) → b ≡ f (Some k) → xs ≡ ks → i < length xs → k ≡ get_or xs i k → b ≡ f (slice_get ks i)
nth_passes f ks xs i k b answer same l is = answer ∙ sym (ap f (slice_get_read xs (length xs) i k refl l is)) ∙ ap (λ r. f (slice_get r i)) same

-- After a walk over all constraints those that pass wait as well.
pub waking_walk : (f : Option Constraint → Bool) (ks : List Constraint) (w t : Members) (i : ℕ) → f None ≡ false → length ks ≤ i → Waking w (λ j. ltb j i) (λ j. f (slice_get ks j)) t → (j : ℕ) → t j ≡ (w j || f (slice_get ks j))
waking_walk f ks w t i off l done j = done.waits j ∙ ap (λ b. w j || b) (nth_below f ks i j off l)

-- No element is among the first none.
pub among-zero : (xs : List ℕ) (j : ℕ) → among j (take 0 xs) ≡ false
among-zero xs j = among_none j

-- The first i + 1 elements are the first i and the next one.
pub among_more : (xs : List ℕ) (i : ℕ) → i < length xs → (j : ℕ) → among j (take (i + 1) xs) ≡ (eqb j (get_or xs i 0) || among j (take i xs))
among_more xs i l j = ap (among j) (take_more xs i 0 l) ∙ among_push j (get_or xs i 0) (take i xs)

-- A constraint concerns the cell if it names it and stands.
concerns_split : (force : Premises) (cell : ℕ) (k : Option Constraint) → (mentions cell k && standing force k) ≡ concerns force (λ x. eqb x cell) k
concerns_split force cell None = refl
concerns_split force cell (Some k) = and_comm (mentions cell (Some k)) (standing force (Some k))

-- The part of a cell holds constraints only, and each that names it.
module _ (ks : List Constraint) (cell : ℕ) (xs : List ℕ) (part : xs ≡ listed (naming ks cell) (length ks)) where
  among-part : (j : ℕ) → among j xs ≡ mentions cell (slice_get ks j)
  unfolding naming
  among-part j = ap (among j) part ∙ among-listed j (naming ks cell) (length ks) ∙ nth_below (mentions cell) ks (length ks) j refl (omega arith)

  -- Each number of the part is that of a constraint.
  pub part-inside : (i : ℕ) → i < length xs → get_or xs i 0 < length ks
  part-inside i l =
      ltb-true (get_or xs i 0) (length ks) (and_parts _ _ (sym (ap (among (get_or xs i 0)) part ∙ among-listed (get_or xs i 0) (naming ks cell) (length ks)) ∙ among_at xs i l)).0

  -- After a walk over the part those in force that name the cell wait as well.
  pub waking_part : (force : Premises) (w t : Members) (i : ℕ) → length xs ≤ i → Waking w (λ j. among j (take i xs)) (λ j. standing force (slice_get ks j)) t →
      (j : ℕ) → t j ≡ (w j || concerns force (λ x. eqb x cell) (slice_get ks j))
  waking_part force w t i l done j =
      done.waits j
      ∙ ap (λ b. w j || (b && standing force (slice_get ks j))) (ap (among j) (take_all i xs l) ∙ among-part j)
      ∙ ap (λ b. w j || b) (concerns_split force cell (slice_get ks j))
