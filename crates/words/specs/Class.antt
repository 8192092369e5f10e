-- The class of a byte.
--.
use Rattle.std.specs.Prelude.{ℕ, Bool, false, cond, ◌&&◌, ◌||◌, List, [], ◌∷◌, codes, ◌==◌, nat_le}

-- A number lies from lo to hi.
abbrev pub between : ℕ → ℕ → ℕ → Bool
between lo hi b = nat_le lo b && nat_le b hi

-- A number is one of a list.
abbrev pub among : ℕ → List ℕ → Bool
among b [] = false
among b (x ∷ xs) = b == x || among b xs

-- The letters A to Z and a to z, `_` and `.`.
abbrev pub letter : ℕ → Bool
letter b = between 65 90 b || between 97 122 b || among b (codes "_.")

-- The digits 0 to 9.
abbrev pub digit : ℕ → Bool
digit b = between 48 57 b

-- The bytes that symbols are made of.
abbrev pub mark : ℕ → Bool
mark b = among b (codes ":+()<=")

-- 1 for letters, 2 for digits, 3 for the space, 4 for the byte that ends a line, 5 for the bytes of symbols, else 0.
unfoldable pub class_of : ℕ → ℕ
class_of b =
    cond (letter b) 1 (cond (digit b) 2 (cond (b == 32) 3 (cond (b == 10) 4 (cond (mark b) 5 0))))

-- A byte is of class k.
abbrev pub is_class : ℕ → ℕ → Bool
is_class k b = class_of b == k
