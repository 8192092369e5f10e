-- What no network does: wrong behaviour that the definitions exclude.
use Rattle.std.specs.Prelude.{◌≡◌, ℕ, ◌<◌, ◌≤◌, true, false, List, Some}
use Rattle.std.specs.List.{slice_get}
use Rattle.facts.specs.Model.{Model}
use Rattle.plan.specs.Placements.{Placed, Premises, owned_by}
use Rattle.plan.specs.declared.constraint.Constraint.{Constraint}
use Rattle.telling.specs.Reasons.{premise}
use Rattle.telling.specs.Tables.{facts, upd}
use Rattle.telling.specs.Stable.{Tidy}
use Rattle.calls.specs.Networks.{Net, within, NoneMeets}
use Rattle.calls.specs.Boards.{Board}
use Rattle.calls.specs.Running.{Outcome, after_step, Run}
use Rattle.calls.specs.Searching.{Search, Finding, Seek}
use Rattle.calls.specs.States.{State}
use Rattle.calls.specs.Refusals.{bring, kept_conflict, refusal}
use Rattle.calls.specs.Histories.{Event}
use Rattle.laws.specs.Promises.{OnRun, OnConflict, OnSeek, OnNone}

-- No reasons that name all premises in force: a step brings no premise into the reasons but one that owns the constraint.
abbrev pub OwnReasonsOnly : {F : Type 0} → Model F → Type 0
OwnReasonsOnly {F} m =
    (N : Net) (force : Premises) (j : ℕ) (k : Constraint) → slice_get N.constraints j ≡ Some k → (p : ℕ) → owned_by k.owner p ≡ false →
    (b : Board F) → Tidy m (facts b.table) → ((x : ℕ) → (b.table x).reasons (premise p) ≡ false) →
    (x : ℕ) → ((after_step m N force j b).table x).reasons (premise p) ≡ false

-- No run makes more steps than its budget, and no seek more moves.
pub record WithinBudget {F : Type 0} (m : Model F) : Type 0 where
  pub run_within : (N : Net) (force : Premises) (i : ℕ) (b : Board F) (o : Outcome) (n : ℕ) (b' : Board F) → Run m N force i b o n b' → n ≤ i
  pub seek_within : (N : Net) (force : Premises) (i : ℕ) (q : Search F) (o : Finding) (n : ℕ) (q' : Search F) → Seek m N force i q o n q' → n ≤ i

-- No seek answers none, and no run a conflict, where some placement meets the premises in force.
abbrev pub OnlyInVain : {F : Type 0} → Net → List (Event F) → Event F → Type 0
OnlyInVain N es e =
    OnRun (λ o n. OnConflict (λ r. NoneMeets Placed N e.late.force) o) e.answer
    × OnSeek (λ o n. OnNone (λ r. NoneMeets Placed N e.late.force) o) e.answer

-- No bring is refused for a kept conflict but one that lies within the premises in force and the new one, and the first such.
pub record KeptWithin {F : Type 0} (N : Net) (s : State F) (p i : ℕ) : Type 0 where
  pub conflict : Premises
  pub is_kept : slice_get s.kept i ≡ Some conflict
  pub lies_within : within conflict (upd s.force p true) ≡ true
  pub none_before : (j : ℕ) (r : Premises) → j < i → slice_get s.kept j ≡ Some r → within r (upd s.force p true) ≡ false

abbrev pub OnlyKept : Type 0 → Type 0
OnlyKept F = (N : Net) (s : State F) (p i : ℕ) → refusal N s (bring p) ≡ Some (kept_conflict i) → KeptWithin N s p i
