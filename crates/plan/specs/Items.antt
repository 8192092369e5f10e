-- What a plan or a draft holds, as lists, and when a draft fits the limits of a plan.
use Rattle.std.specs.Prelude.{Bool, cond, ◌&&◌, List, [], length, vec_items, Option, nat_le}
use Rattle.plan.specs.declared.constraint.Constraint.{Constraint}
use Rattle.plan.specs.declared.draft.Draft.{Draft}
use Rattle.plan.specs.declared.place.Place.{Place}
use Rattle.plan.specs.declared.plan.Plan.{Plan}
use Rattle.plan.specs.Known.{all_known}

-- cells (a helper has no place), premises and constraints in the order of their making
pub record Items : Type 0 where
  pub cells : List (Option Place)
  pub premises : List Place
  pub constraints : List Constraint

abbrev pub nothing : Items
nothing = record { cells = []; premises = []; constraints = [] }

abbrev pub drafted : Draft → Items
drafted d = record { cells = vec_items d.cells; premises = vec_items d.premises; constraints = vec_items d.constraints }

abbrev pub planned : Plan → Items
planned p = drafted p.draft

-- at most 256 cells, 32 premises and 512 constraints
abbrev pub few : Items → Bool
few d = nat_le (length d.cells) 256 && (nat_le (length d.premises) 32 && nat_le (length d.constraints) 512)

-- each constraint names only these cells and premises
abbrev pub sound : Items → Bool
sound d = all_known (length d.cells) (length d.premises) d.constraints

-- what a plan may hold
abbrev pub fits : Items → Bool
fits d = few d && sound d

-- a draft that fits becomes the plan; of any other the plan is empty
abbrev pub filled : Items → Items
filled d = cond (fits d) d nothing
