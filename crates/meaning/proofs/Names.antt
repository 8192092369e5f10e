-- The first element that passes, in a list that grows at its end.
use Rattle.std.proofs.Common.{◌≡◌, ℕ, ◌+◌, ◌<◌, Bool, true, ◌⊎◌, List, [], ◌∷◌, ◌++◌, length, Some, None, arith}
use Rattle.std.specs.List.{position_from}

-- what is found stays found
pub first_past : {X : Type 0} (f : X → Bool) (xs : List X) (x : X) (i c : ℕ) → position_from f i xs ≡ Some c → position_from f i (xs ++ x ∷ []) ≡ Some c
first_past f [] x i c h = grind arith
first_past f (y ∷ ys) x i c h = grind (arith, first_past f ys x (i + 1) c)

-- what is found is one of the list
pub first_below : {X : Type 0} (f : X → Bool) (xs : List X) (i c : ℕ) → position_from f i xs ≡ Some c → c < i + length xs
first_below f [] i c h = grind arith
first_below f (y ∷ ys) i c h = grind (arith, first_below f ys (i + 1) c)

-- the new last element is found, or what was found before it
pub first_back : {X : Type 0} (f : X → Bool) (xs : List X) (x : X) (i c : ℕ) → position_from f i (xs ++ x ∷ []) ≡ Some c → (position_from f i xs ≡ Some c) ⊎ ((c ≡ i + length xs) × (f x ≡ true))
first_back f [] x i c h = grind arith
first_back f (y ∷ ys) x i c h = grind (arith, first_back f ys x (i + 1) c)

-- the new last element is found where it is the first that passes
pub first_new : {X : Type 0} (f : X → Bool) (xs : List X) (x : X) (i : ℕ) → position_from f i xs ≡ None → f x ≡ true → position_from f i (xs ++ x ∷ []) ≡ Some (i + length xs)
first_new f [] x i h e = grind arith
first_new f (y ∷ ys) x i h e = grind (arith, first_new f ys x (i + 1))
