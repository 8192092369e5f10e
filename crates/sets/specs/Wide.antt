-- What a set of numbers below 512 means.
use Rattle.sets.specs.Members.{Members}
use Rattle.sets.specs.Parts.{in_parts}
use Rattle.sets.specs.declared.wide.Set512.{Set512}

-- The members are those of its parts.
abbrev pub holds_wide : Set512 → Members
holds_wide s = in_parts s.parts
