-- When a constraint names only cells and premises that there are, with its numbers in their ranges.
use Rattle.std.specs.Prelude.{ℕ, Bool, true, ◌&&◌, List, [], ◌∷◌, Some, None, Option, nat_lt}
use Rattle.std.specs.List.{list_all}
use Rattle.statements.specs.Numbers.{top, bottom, inside}
use Rattle.plan.specs.declared.constraint.Constraint.{Constraint}
use Rattle.plan.specs.declared.constraint.Form.{Form}
use Rattle.plan.specs.declared.constraint.Form.TheVariants.{State, Sum, Gap, Apart}
use Rattle.plan.specs.Forms.{named}

-- each number of the list is below n
abbrev pub all_below : ℕ → List ℕ → Bool
all_below n [] = true
all_below n (c ∷ cs) = nat_lt c n && all_below n cs

-- there is such a premise, of m
abbrev pub owner_known : ℕ → Option ℕ → Bool
owner_known m None = true
owner_known m (Some p) = nat_lt p m

-- a gap's distance is a number of U; the other numbers are in their ranges by their types
abbrev pub ranged : Form → Bool
ranged (State c s) = true
ranged (Sum a b c) = true
ranged (Gap a d b) = inside bottom top d
ranged (Apart a d b e) = true

-- the constraint names only the first n cells and the first m premises
abbrev pub known : ℕ → ℕ → Constraint → Bool
known n m k = all_below n (named k.form) && (owner_known m k.owner && ranged k.form)

abbrev pub all_known : ℕ → ℕ → List Constraint → Bool
all_known n m ks = list_all (known n m) ks
