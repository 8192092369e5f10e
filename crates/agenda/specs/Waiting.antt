-- What every agenda does to the set of waiting numbers as one is taken.
use Rattle.std.specs.Prelude.{◌≡◌, ℕ, true, Some, None, Option}
use Rattle.sets.specs.Members.{Members, Nobody, Same, Parted}

-- The answer is some member of s, and t is s without it; absent exactly if s has none, and t is s.
abbrev pub Taken : Members → Option ℕ → Members → Type 0
Taken s None t = Nobody s × Same t s
Taken s (Some k) t = (s k ≡ true) × Parted s k t
