-- Lists in which no element stands twice.
use Rattle.std.proofs.Common.{◌≡◌, ℕ, true, false, not, ◌||◌, eqb, List, [], ◌∷◌, ◌++◌, sym, refl, ap, ◌∙◌}
use Rattle.std.proofs.lemmas.Bool.{both_ways, eq-eqb, ne_eqb, and_from, and_parts, or_parts, or_from, not_from_false, not-true}
use Rattle.sets.specs.Members.{among}
use Rattle.sets.proofs.Lists.{among_push}
use Rattle.agenda.specs.Orders.{distinct}

-- A new number at the end leaves the list without repetition.
pub distinct_push : (k : ℕ) (xs : List ℕ) → distinct xs ≡ true → among k xs ≡ false → distinct (xs ++ (k ∷ [])) ≡ true
unfolding among distinct
distinct_push k [] h n = refl
distinct_push k (x ∷ xs) h n =
    let p = and_parts (not (among x xs)) (distinct xs) h in
    let q = or_parts (eqb k x) (among k xs) n in
    let ne : eqb x k ≡ false = ne_eqb x k (λ e. both_ways _ q.0 (eq-eqb k x (sym e))) in
    and_from _ _ (not_from_false _ (among_push x k xs ∙ or_from _ _ ne (not-true _ p.0))) (distinct_push k xs p.1 q.1)

-- The list xs has k and the elements of ys, and no element stands twice.
pub record Parts (xs : List ℕ) (k : ℕ) (ys : List ℕ) : Type 0 where
  pub each : (j : ℕ) → among j xs ≡ (eqb j k || among j ys)
  pub once : among k ys ≡ false
  pub rest : distinct ys ≡ true

-- A list without repetition is its first element and the others.
pub parts_first : (k : ℕ) (xs ys : List ℕ) → xs ≡ (k ∷ ys) → distinct xs ≡ true → Parts xs k ys
unfolding among distinct
parts_first k xs ys e h =
    let p = and_parts (not (among k ys)) (distinct ys) (ap distinct (sym e) ∙ h) in
    record { each = λ j. ap (among j) e; once = not-true (among k ys) p.0; rest = p.1 }

-- A list without repetition is its last element and the others.
pub parts_last : (k : ℕ) (xs ys : List ℕ) → xs ≡ ys ++ (k ∷ []) → distinct xs ≡ true → Parts xs k ys
unfolding among distinct
parts_last k xs ys e h =
    let p = go ys (ap distinct (sym e) ∙ h) in
    record { each = λ j. ap (among j) e ∙ among_push j k ys; once = p.0; rest = p.1 }
  where
    go : (ys : List ℕ) → distinct (ys ++ (k ∷ [])) ≡ true → (among k ys ≡ false) × (distinct ys ≡ true)
    go [] h = (refl, refl)
    go (y ∷ ys) h =
        let p = and_parts (not (among y (ys ++ (k ∷ [])))) (distinct (ys ++ (k ∷ []))) h in
        let q = or_parts (eqb y k) (among y ys) (sym (among_push y k ys) ∙ not-true _ p.0) in
        let r = go ys p.1 in
        let ne : eqb k y ≡ false = ne_eqb k y (λ e. both_ways _ q.0 (eq-eqb y k (sym e))) in
        (or_from _ _ ne r.0, and_from _ _ (not_from_false _ q.1) r.1)
