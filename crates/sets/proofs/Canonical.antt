-- Sets below 32 with the same members are equal values.
use Rattle.std.proofs.Common.{◌≡◌, ℕ, ◌^◌, ◌<◌, ap}
use Rattle.sets.specs.declared.small.Set32.{Set32}
use Rattle.sets.specs.Members.{Same}
use Rattle.sets.specs.Small.{holds}
use Rattle.sets.proofs.Digits.{bits_same}

abbrev word : ℕ → Set32
word x = record { bits = x }

-- The members determine the set; each word that a program holds has 32 bits.
pub canonical : (s t : Set32) → s.bits < 2 ^ 32 → t.bits < 2 ^ 32 → Same (holds s) (holds t) → s ≡ t
canonical s t l m h = ap word (bits_same 32 s.bits t.bits l m h)
