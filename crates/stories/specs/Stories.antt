-- Two histories over a small network: one with a conflict, a lift, a quiet run and a search that finds; and one whose search ends in none.
use Rattle.std.specs.Prelude.{◌≡◌, ℕ, ◌||◌, List, [], ◌∷◌, map, pos, Some, ◌==◌}
use Rattle.statements.specs.declared.statement.Statement.TheVariants.{Between}
use Rattle.facts.specs.Model.{Model}
use Rattle.plan.specs.Placements.{Premises}
use Rattle.plan.specs.declared.constraint.Constraint.{Constraint}
use Rattle.plan.specs.declared.constraint.Form.TheVariants.{State as state, Apart}
use Rattle.calls.specs.Networks.{Net}
use Rattle.calls.specs.Running.{quiet, conflict}
use Rattle.calls.specs.Searching.{found, none_left}
use Rattle.calls.specs.States.{State}
use Rattle.calls.specs.Refusals.{Call, clear, bring, lift, run, begin, seek, finish}
use Rattle.calls.specs.Calls.{Answer, done, lifted, ran, sought, finished}
use Rattle.calls.specs.Histories.{Event, History}

-- The cell is 0 or 1, for premise 0.
abbrev pub low_one : Constraint
low_one = record { owner = Some 0; form = state 0 (Between (pos 0) (pos 1)) }

-- The cell is 1 away from itself, for premise 1.
abbrev pub off_itself : Constraint
off_itself = record { owner = Some 1; form = Apart 0 1 0 1 }

-- The cell is 7 to 9, for premise 2.
abbrev pub high_one : Constraint
high_one = record { owner = Some 2; form = state 0 (Between (pos 7) (pos 9)) }

-- One cell, three premises, and a constraint for each of them.
abbrev pub net : Net
net = record { cells = 1; premises = 3; constraints = low_one ∷ off_itself ∷ high_one ∷ [] }

-- The set of p and q.
abbrev pub pair : ℕ → ℕ → Premises
pair p q j = j == p || j == q

-- A history of these calls with these answers, the newest first.
pub record Told {F : Type 0} (m : Model F) (calls : List Call) (answers : List Answer) : Type 0 where
  pub events : List (Event F)
  pub late : State F
  pub history : History m net events late
  pub calls_are : map (λ e. e.call) events ≡ calls
  pub answers_are : map (λ e. e.answer) events ≡ answers

-- Premises 0 and 2 contradict each other; with 2 lifted the run ends quiet, and a search finds.
abbrev pub Finding : {F : Type 0} → Model F → Type 0
Finding m =
    Told m
    (finish ∷ seek 9 1 ∷ begin ∷ run 9 1 ∷ lift 2 1 ∷ run 9 1 ∷ bring 2 ∷ bring 0 ∷ clear 1 ∷ [])
    (finished 1 ∷ sought found 2 ∷ done ∷ ran quiet 3 ∷ lifted 1 ∷ ran (conflict (pair 0 2)) 2 ∷ done ∷ done ∷ done ∷ [])

-- Premises 0 and 1 leave the run quiet, but a search shows that they contradict each other.
abbrev pub Failing : {F : Type 0} → Model F → Type 0
Failing m =
    Told m
    (seek 9 1 ∷ begin ∷ run 9 1 ∷ bring 1 ∷ bring 0 ∷ clear 1 ∷ [])
    (sought (none_left (pair 0 1)) 5 ∷ done ∷ ran quiet 3 ∷ done ∷ done ∷ done ∷ [])
