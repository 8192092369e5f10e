-- Sets of numbers as membership tests, and what is said of them.
use Rattle.std.specs.Prelude.{◌≡◌, ℕ, zero, suc, ◌+◌, ◌<◌, Bool, true, false, cond, not, ◌&&◌, ◌||◌, List, [], ◌∷◌, ◌++◌, Some, None, Option, ◌==◌, nat_lt}

-- A set of numbers is the test whether a number is a member.
abbrev pub Members : Type 0
Members = ℕ → Bool

-- No number is a member of s.
abbrev pub Nobody : Members → Type 0
Nobody s = (n : ℕ) → s n ≡ false

-- s and t have the same members.
abbrev pub Same : Members → Members → Type 0
Same s t = (n : ℕ) → s n ≡ t n

-- t is s with n as well, or just s if n is not below the limit.
abbrev pub Joined : ℕ → Members → ℕ → Members → Type 0
Joined limit s n t = (j : ℕ) → t j ≡ ((j == n && nat_lt n limit) || s j)

-- t is s without n.
abbrev pub Parted : Members → ℕ → Members → Type 0
Parted s n t = (j : ℕ) → t j ≡ (not (j == n) && s j)

-- Each member of s is a member of t.
abbrev pub Within : Members → Members → Type 0
Within s t = (n : ℕ) → s n ≡ true → t n ≡ true

-- Whether each member of s below n is a member of t.
unfoldable pub inside : Members → Members → ℕ → Bool
inside s t zero = true
inside s t (suc n) = (not (s n) || t n) && inside s t n

-- The answer is the least member of s, absent exactly without one.
abbrev pub Least : Members → Option ℕ → Type 0
Least s None = Nobody s
Least s (Some k) = (s k ≡ true) × ((j : ℕ) → j < k → s j ≡ false)

-- The answer is the greatest member of s, absent exactly without one.
abbrev pub Greatest : Members → Option ℕ → Type 0
Greatest s None = Nobody s
Greatest s (Some k) = (s k ≡ true) × ((j : ℕ) → k < j → s j ≡ false)

-- How many numbers below n are members of s.
unfoldable pub count : Members → ℕ → ℕ
count s zero = 0
count s (suc n) = count s n + cond (s n) 1 0

-- Whether k is an element of the list.
unfoldable pub among : ℕ → List ℕ → Bool
among k [] = false
among k (x ∷ xs) = k == x || among k xs

-- The members of s below n, in rising order.
unfoldable pub listed : Members → ℕ → List ℕ
listed s zero = []
listed s (suc n) = listed s n ++ cond (s n) (n ∷ []) []
