-- The state of a network with its table and its agenda.
use Rattle.std.specs.Prelude.{Bool, true, false, List, Some, None, Option}
use Rattle.plan.specs.Placements.{Premises}
use Rattle.calls.specs.Boards.{Board}
use Rattle.calls.specs.Trails.{Trail}

-- The table and the waiting numbers, the premises in force, the kept conflicts, whether it is cleared, and the trail if a search is open.
pub record State (F : Type 0) : Type 0 where
  pub board : Board F
  pub force : Premises
  pub kept : List Premises
  pub cleared : Bool
  pub trail : Option Trail

-- Is a search open?
abbrev pub is_open : Option Trail → Bool
is_open None = false
is_open (Some t) = true
