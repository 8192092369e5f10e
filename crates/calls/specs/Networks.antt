-- What a network is made from, and when a constraint of it is in force.
use Rattle.std.specs.Prelude.{◌≡◌, ℕ, ◌≤◌, Bool, true, List, length}
use Rattle.sets.specs.Members.{inside}
use Rattle.plan.specs.Items.{Items}
use Rattle.plan.specs.Known.{all_known}
use Rattle.plan.specs.Placements.{Placement, Premises, owned_by, Meets}
use Rattle.plan.specs.declared.constraint.Constraint.{Constraint}

-- How many cells and how many premises there are, and the constraints in the order of their numbers.
pub record Net : Type 0 where
  pub cells : ℕ
  pub premises : ℕ
  pub constraints : List Constraint

-- The net of what a plan holds.
abbrev pub net_of : Items → Net
net_of i = record { cells = length i.cells; premises = length i.premises; constraints = i.constraints }

-- What holds of the net of every plan: at most 256 cells, 32 premises and 512 constraints, and these name only its own cells and premises.
pub record Planned (N : Net) : Type 0 where
  pub few_cells : N.cells ≤ 256
  pub few_premises : N.premises ≤ 32
  pub few_constraints : length N.constraints ≤ 512
  pub known : all_known N.cells N.premises N.constraints ≡ true

-- Does one set of premises lie within another? Equal ones do.
abbrev pub within : Premises → Premises → Bool
within r s = inside r s 32

-- Is the constraint in force under a set of premises: do all that own it lie within the set?
unfoldable pub in_force : Premises → Constraint → Bool
in_force s k = within (owned_by k.owner) s

-- No placement of this sort meets the premises.
abbrev pub NoneMeets : (Placement → Type 0) → Net → Premises → Type 0
NoneMeets Sort N ps = (v : Placement) → Sort v → Meets v ps N.constraints → ⊥
