-- A word as the set of the places of its binary ones.
use Rattle.std.specs.Prelude.{ℕ, ◌/◌, ◌%◌, ◌^◌, ◌==◌}
use Rattle.sets.specs.Members.{Members}

-- Whether the binary digit of the word at place n, counted from the lowest as 0, is a one.
unfoldable pub bits_of : ℕ → Members
bits_of word n = word / 2 ^ n % 2 == 1
