-- What a set of numbers below 32 means.
use Rattle.sets.specs.Members.{Members}
use Rattle.sets.specs.Bits.{bits_of}
use Rattle.sets.specs.declared.small.Set32.{Set32}

-- The members are the places of the ones.
abbrev pub holds : Set32 → Members
holds s = bits_of s.bits
