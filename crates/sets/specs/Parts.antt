-- Sixteen sets of numbers below 32, one after another, as a set of numbers below 512.
use Rattle.std.specs.Prelude.{◌≡◌, ℕ, ◌/◌, ◌%◌, ◌^◌, ◌<◌, ◌↔◌, false, ◌&&◌, List, nat_lt, slice_index_or}
use Rattle.sets.specs.Members.{Members, Nobody}
use Rattle.sets.specs.Small.{holds}
use Rattle.sets.specs.declared.small.Set32.{Set32}

-- The part at a place; past the last one there are no members.
abbrev pub part_at : List Set32 → ℕ → Set32
part_at parts i = slice_index_or parts i (record { bits = 0 })

-- A number below 512 is a member if its part has its place among the 32.
abbrev pub in_parts : List Set32 → Members
in_parts parts n = nat_lt n 512 && holds (part_at parts (n / 32)) (n % 32)

-- A part is without a mark exactly when it has no member.
abbrev pub Marks : Set32 → List Set32 → Type 0
Marks used parts = (i : ℕ) → (holds used i ≡ false) ↔ Nobody (holds (part_at parts i))

-- Each part is a word of 32 bits.
abbrev pub Fit : List Set32 → Type 0
Fit parts = (i : ℕ) → (part_at parts i).bits < 2 ^ 32
