-- The elements of a list as a set, and the members of a set as a list.
use Rattle.std.proofs.Common.{◌≡◌, ℕ, zero, suc, ◌+◌, ◌<◌, Bool, true, false, cond, ◌&&◌, ◌||◌, eqb, ltb, List, [], ◌∷◌, ◌++◌, length, get_or, sym, refl, ap, ◌∙◌, ⊎_elim, append-nil, add-one, arith}
use mathlib.Core.Bool.{and-true, and-false, or-false}
use Rattle.std.proofs.lemmas.Bool.{cases_eq, cases_lt, eq-eqb, ne_eqb, lt-ltb, le-ltb, or_left, or_right}
use Rattle.sets.specs.Members.{Members, among, listed}

or_skip : (a b c : Bool) → (a || (b || c)) ≡ (b || (a || c))
or_skip true true c = refl
or_skip true false c = refl
or_skip false b c = refl

-- Nothing is an element of the empty list.
pub among_none : (j : ℕ) → among j [] ≡ false
unfolding among
among_none j = refl

-- An element is the last one or among the others.
pub among_push : (j k : ℕ) (xs : List ℕ) → among j (xs ++ (k ∷ [])) ≡ (eqb j k || among j xs)
unfolding among
among_push j k [] = refl
among_push j k (x ∷ xs) = ap (λ b. eqb j x || b) (among_push j k xs) ∙ or_skip (eqb j x) (eqb j k) (among j xs)

-- What stands in a list is an element of it.
pub among_at : (xs : List ℕ) (i : ℕ) → i < length xs → among (get_or xs i 0) xs ≡ true
unfolding among
among_at [] i l = absurd (omega arith)
among_at (x ∷ xs) zero l = or_left _ _ (eq-eqb x x refl)
among_at (x ∷ xs) (suc i) l = or_right (eqb (get_or xs i 0) x) _ (among_at xs i (omega arith))

-- Below 0 there is nothing to list.
pub listed_none : (s : Members) → listed s 0 ≡ []
unfolding listed
listed_none s = refl

-- The next number is listed if it is a member.
pub listed_more : (s : Members) (n : ℕ) → listed s (n + 1) ≡ listed s n ++ cond (s n) (n ∷ []) []
unfolding listed
listed_more s n = rw add-one

among_more : (j n : ℕ) (xs : List ℕ) (b : Bool) → among j (xs ++ cond b (n ∷ []) []) ≡ ((eqb j n && b) || among j xs)
among_more j n xs true = among_push j n xs ∙ ap (λ b. b || among j xs) (sym (and-true (eqb j n)))
among_more j n xs false = ap (among j) (append-nil xs) ∙ sym (ap (λ b. b || among j xs) (and-false (eqb j n)))

-- The numbers listed are the members below n.
pub among-listed : (j : ℕ) (s : Members) (n : ℕ) → among j (listed s n) ≡ (ltb j n && s j)
unfolding listed
among-listed j s zero = among_none j ∙ sym (ap (λ b. b && s j) (le-ltb j 0 (omega arith)))
among-listed j s (suc n) =
    among_more j n (listed s n) (s n) ∙ ap (λ b. (eqb j n && s n) || b) (among-listed j s n)
    ∙ ⊎_elim
    (λ e. ap (λ x. (eqb x n && s n) || (ltb x n && s x)) e ∙ here ∙ sym (ap (λ x. ltb x (suc n) && s x) e))
    (λ ne. rw (ne_eqb j n ne) (ap (λ b. b && s j) (other ne)))
    (cases_eq j n)
  where
    here : ((eqb n n && s n) || (ltb n n && s n)) ≡ (ltb n (suc n) && s n)
    here = rw (eq-eqb n n refl, le-ltb n n (omega arith), lt-ltb n (suc n) (omega arith)) (or-false (s n))

    other : (j ≡ n → ⊥) → ltb j n ≡ ltb j (suc n)
    other ne = ⊎_elim (λ l. lt-ltb j n l ∙ sym (lt-ltb j (suc n) (omega arith))) (λ g. le-ltb j n g ∙ sym (le-ltb j (suc n) (omega (arith, ne)))) (cases_lt j n)
