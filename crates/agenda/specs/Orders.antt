-- The order in which numbers wait, as a list from the oldest to the newest.
use Rattle.std.specs.Prelude.{ℕ, zero, suc, ◌+◌, ◌%◌, Bool, true, cond, not, ◌&&◌, List, [], ◌∷◌, ◌++◌, nat_lt, slice_index}
use Rattle.sets.specs.Members.{among}

-- The n items of a ring of 512 places from head on; after the last place comes the first one.
unfoldable pub in_order : List ℕ → ℕ → ℕ → List ℕ
in_order items head zero = []
in_order items head (suc n) = slice_index items (head % 512) ∷ in_order items (head + 1) n

-- Whether no element stands twice.
unfoldable pub distinct : List ℕ → Bool
distinct [] = true
distinct (x ∷ xs) = not (among x xs) && distinct xs

-- The list with k at its end, or just the list if k stands in it or is not below 512.
unfoldable pub pushed : ℕ → List ℕ → List ℕ
pushed k xs = cond (nat_lt k 512 && not (among k xs)) (xs ++ (k ∷ [])) xs
