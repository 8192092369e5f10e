-- How far the sizes of facts fall when each is told one fact.
use Rattle.std.proofs.Common.{◌≡◌, ℕ, ◌+◌, ◌≤◌, cond, not, List, [], ◌∷◌, map, count_by, ap, arith}
use Rattle.std.proofs.lemmas.List.Sums.{sum_by-cons}
use Rattle.statements.proofs.Tests.{test_cases, test_clash}
use Rattle.facts.specs.Model.{Model}
use Rattle.facts.specs.Laws.{Laws}
use Rattle.facts.specs.Derived.{told, changes, sizes}
use Rattle.facts.proofs.TidyLaws.{told-size_falls}

module _ {F : Type 0} (m : Model F) (l : Laws m) (g : F) where
  told-size : (f : F) → m.size (told m g f) + cond (changes m g f) 1 0 ≤ m.size f
  unfolding changes
  told-size f =
      test_cases (m.equal (told m g f) f)
      (λ e.
      let same = ap m.size ((l.equal_decides (told m g f) f).0 e) in
      let none : ◌≡◌ {A = ℕ} (cond (changes m g f) 1 0) 0 = ap (λ b. cond (not b) 1 0) e in
      omega arith)
      (λ e.
      let less = told-size_falls m l g f (λ p. test_clash ((l.equal_decides (told m g f) f).1 p) e) in
      let one : ◌≡◌ {A = ℕ} (cond (changes m g f) 1 0) 1 = ap (λ b. cond (not b) 1 0) e in
      omega arith)

  -- The sizes together fall by at least one for each fact changed.
  pub sizes_fall : (xs : List F) → sizes m (map (told m g) xs) + count_by (changes m g) xs ≤ sizes m xs
  unfolding sizes
  sizes_fall [] = omega arith
  sizes_fall (x ∷ xs) =
      let a = sum_by-cons m.size (told m g x) (map (told m g) xs) in
      let b = sum_by-cons m.size x xs in
      let c = sum_by-cons (λ y. cond (changes m g y) 1 0) x xs in
      let d = told-size x in
      let e = sizes_fall xs in
      omega arith
