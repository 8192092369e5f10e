-- The cells that a firing reports, and what a firing of a slice answers and leaves.
use Rattle.std.specs.Prelude.{◌≡◌, ℕ, true, false, List, length, take, Some, None, Option}
use Rattle.facts.specs.Model.{Model}
use Rattle.plan.specs.Known.{known}
use Rattle.plan.specs.declared.constraint.Constraint.{Constraint}
use Rattle.sets.specs.Members.{among}
use Rattle.telling.specs.Tables.{changed}
use Rattle.telling.specs.Firing.{fired, fired_change}
use Rattle.cells.specs.declared.cell.Cell.{Cell}
use Rattle.cells.specs.declared.changed.Changed.{Changed}
use Rattle.cells.specs.Meaning.{table_of}

-- The cells reported, in their order.
abbrev pub changed_cells : Changed → List ℕ
changed_cells c = take c.count c.cells

-- The table is the defined one, and the cells reported are those defined, which are exactly those whose fact changed.
pub record Done {F : Type 0} (m : Model F) (k : Constraint) (xs : List (Cell F)) (c : Changed) (ys : List (Cell F)) : Type 0 where
  pub fits : known (length xs) 32 k ≡ true
  pub table : table_of m ys ≡ fired m k (table_of m xs)
  pub cells : changed_cells c ≡ fired_change m k (table_of m xs)
  pub exactly : (x : ℕ) → among x (changed_cells c) ≡ changed m (table_of m xs) (table_of m ys) x

-- What firing a constraint over the slice xs answers, and the slice ys that it leaves: absent and untouched exactly where the constraint names a cell that is not there, an owner from 32 on or a distance outside U.
abbrev pub Fired : {F : Type 0} → Model F → Constraint → List (Cell F) → Option Changed → List (Cell F) → Type 0
Fired m k xs None ys = (known (length xs) 32 k ≡ false) × (ys ≡ xs)
Fired m k xs (Some c) ys = Done m k xs c ys
