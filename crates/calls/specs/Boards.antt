-- A table and the constraints that wait, and how changes of cells set constraints waiting.
use Rattle.std.specs.Prelude.{ℕ, zero, suc, Bool, false, cond, not, ◌&&◌, ◌||◌, Some, None, Option, ◌==◌}
use Rattle.std.specs.List.{slice_get}
use Rattle.sets.specs.Members.{Members}
use Rattle.facts.specs.Model.{Model}
use Rattle.plan.specs.Forms.{named}
use Rattle.plan.specs.Placements.{Premises}
use Rattle.plan.specs.declared.constraint.Constraint.{Constraint}
use Rattle.telling.specs.Tables.{Table, any, start_cell}
use Rattle.calls.specs.Networks.{Net, in_force}

-- A table with the numbers that wait.
pub record Board (F : Type 0) : Type 0 where
  pub table : Table F
  pub waits : Members

-- Is some number below n a member?
unfoldable pub any_below : ℕ → Members → Bool
any_below zero s = false
any_below (suc n) s = any_below n s || s n

-- The set without n.
abbrev pub without : ℕ → Members → Members
without n s j = not (j == n) && s j

-- Is there a constraint, in force, that names a cell of the set?
abbrev pub concerns : Premises → Members → Option Constraint → Bool
concerns force cells None = false
concerns force cells (Some k) = in_force force k && any cells (named k.form)

-- The numbers that wait once each constraint in force that names a cell of the set waits as well.
abbrev pub woken : Net → Premises → Members → Members → Members
woken N force cells w j = w j || concerns force cells (slice_get N.constraints j)

-- The table with the cells of the set back at their start.
abbrev pub reset : {F : Type 0} → Model F → Members → Table F → Table F
reset m cells T x = cond (cells x) (start_cell m) (T x)
