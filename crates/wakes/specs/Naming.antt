-- Which constraints name a cell.
use Rattle.std.specs.Prelude.{ℕ, Bool, false, List, Some, None, Option, nat_eq}
use Rattle.std.specs.List.{slice_get}
use Rattle.sets.specs.Members.{Members}
use Rattle.plan.specs.Forms.{named}
use Rattle.plan.specs.declared.constraint.Constraint.{Constraint}
use Rattle.telling.specs.Tables.{any}

-- Is there such a constraint, and does it name the cell?
abbrev pub mentions : ℕ → Option Constraint → Bool
mentions cell None = false
mentions cell (Some k) = any (λ x. nat_eq x cell) (named k.form)

-- The numbers of the constraints that name the cell.
unfoldable pub naming : List Constraint → ℕ → Members
naming ks cell j = mentions cell (slice_get ks j)
