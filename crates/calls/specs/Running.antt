-- A step, and a run: which steps it makes and what it answers.
use Rattle.std.specs.Prelude.{◌≡◌, ℕ, suc, ◌<◌, true, false, cond, Some, None, Option}
use Rattle.std.specs.List.{slice_get}
use Rattle.sets.specs.Members.{Nobody}
use Rattle.facts.specs.Model.{Model}
use Rattle.facts.specs.Derived.{none}
use Rattle.plan.specs.Placements.{Premises}
use Rattle.plan.specs.declared.constraint.Constraint.{Constraint}
use Rattle.telling.specs.Reasons.{Reasons, premise}
use Rattle.telling.specs.Tables.{Table, changed}
use Rattle.telling.specs.Firing.{fired}
use Rattle.calls.specs.Networks.{Net, in_force}
use Rattle.calls.specs.Boards.{Board, without, woken}

-- What a run answers: nothing waits; these premises contradict each other; or the budget is spent.
pub data Outcome : Type 0 where
  quiet : Outcome
  conflict : Premises → Outcome
  spent : Outcome

-- The premises among some reasons.
abbrev pub premises_of : Reasons → Premises
premises_of r p = r (premise p)

module _ {F : Type 0} (m : Model F) (N : Net) where
  -- No cell is in conflict.
  abbrev pub Clean : Table F → Type 0
  Clean T = (x : ℕ) → x < N.cells → none m (T x).fact ≡ false

  -- x is the lowest cell in conflict.
  pub record Lowest (T : Table F) (x : ℕ) : Type 0 where
    pub is_cell : x < N.cells
    pub in_conflict : none m (T x).fact ≡ true
    pub none_lower : (y : ℕ) → y < x → none m (T y).fact ≡ false

  module _ (force : Premises) where
    -- The table after a constraint was taken: it is fired if it is in force. A number that is no constraint fires nothing.
    abbrev pub after_taken : Option Constraint → Table F → Table F
    after_taken None T = T
    after_taken (Some k) T = cond (in_force force k) (fired m k T) T

    -- The board after step j: constraint j no longer waits and is fired if in force, and wherever a fact changed each constraint in force that names the cell waits.
    unfoldable pub after_step : ℕ → Board F → Board F
    after_step j b =
        let T = after_taken (slice_get N.constraints j) b.table in
        record { table = T; waits = woken N force (changed m b.table T) (without j b.waits) }

    -- Exactly n steps lead from one board to another; each takes some constraint that waits, where no cell is in conflict.
    pub data Steps : ℕ → Board F → Board F → Type 0 where
      still : (b : Board F) → Steps 0 b b
      step : (n j : ℕ) (b b' : Board F) → Clean b.table → b.waits j ≡ true → Steps n (after_step j b) b' → Steps (suc n) b b'

    -- A run with a budget, from a board to its answer, the steps made and the board then. A conflict and quiet are answered before spent.
    pub data Run : (budget : ℕ) → Board F → Outcome → (steps : ℕ) → Board F → Type 0 where
      clashes : (i x : ℕ) (b : Board F) → Lowest b.table x → Run i b (conflict (premises_of (b.table x).reasons)) 0 b
      rests : (i : ℕ) (b : Board F) → Clean b.table → Nobody b.waits → Run i b quiet 0 b
      tires : (j : ℕ) (b : Board F) → Clean b.table → b.waits j ≡ true → Run 0 b spent 0 b
      steps : (i n j : ℕ) (b b' : Board F) (o : Outcome) → Clean b.table → b.waits j ≡ true → Run i (after_step j b) o n b' → Run (suc i) b o (suc n) b'
