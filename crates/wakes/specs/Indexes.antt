-- What an index holds.
use Rattle.std.specs.Prelude.{ℕ, List, vec_items, vec_len}
use Rattle.plan.specs.declared.constraint.Constraint.{Constraint}
use Rattle.wakes.specs.declared.index.Index.{Index}

-- The constraints in the order of their numbers.
abbrev pub constraints_in : Index → List Constraint
constraints_in x = vec_items x.constraints

-- How many cells there are: each has its part.
abbrev pub cells_in : Index → ℕ
cells_in x = vec_len x.parts
