-- What the walk over the constraints keeps.
use Rattle.std.proofs.Common.{◌≡◌, ◌++◌, vec_items}
use Rattle.sets.specs.Members.{listed}
use Rattle.wakes.specs.Naming.{naming}
use Rattle.wakes.proofs.parts.add_part.Given as goal

-- The numbers so far that name the cell were added.
abbrev pub invariant-loop-number : goal.invariant-loop-number
invariant-loop-number l = vec_items l.numbers ≡ vec_items l.initial.numbers ++ listed (naming l.constraints l.cell) l.number
