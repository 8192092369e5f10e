-- What is promised over every history of calls, for every lawful kind and every lawful agenda.
use Rattle.std.specs.Prelude.{◌≡◌, ℕ, ◌+◌, ◌*◌, ◌<◌, ◌≤◌, true, ◌⊎◌, List, [], ◌∷◌, length, Some, None}
use Rattle.std.specs.List.{slice_get}
use Rattle.sets.specs.Members.{Within, count}
use Rattle.facts.specs.Model.{Model}
use Rattle.facts.specs.Derived.{low, none}
use Rattle.plan.specs.Placements.{Placement, Placed, Premises, InForce, Meets}
use Rattle.plan.specs.declared.constraint.Constraint.{Constraint}
use Rattle.telling.specs.Tables.{facts, table_size}
use Rattle.telling.specs.Stable.{Stable, Above}
use Rattle.calls.specs.Networks.{Net, Planned, NoneMeets}
use Rattle.calls.specs.Boards.{Board}
use Rattle.calls.specs.Running.{Outcome, quiet, conflict, spent, Steps}
use Rattle.calls.specs.Trails.{Trail}
use Rattle.calls.specs.Searching.{Finding, found, none_left, full, spent as tired, Moves}
use Rattle.calls.specs.States.{State}
use Rattle.calls.specs.Calls.{Answer, refused, done, lifted, ran, shown, listed, sought, finished}
use Rattle.calls.specs.Histories.{Event, History}

-- ---- claims on the events of a history

-- The claim holds of each event, with the events before it.
abbrev pub Always : {F : Type 0} → (List (Event F) → Event F → Type 0) → List (Event F) → Type 0
Always P [] = Unit {0}
Always P (e ∷ es) = P es e × Always P es

-- What is claimed if the answer is that of a run.
abbrev pub OnRun : (Outcome → ℕ → Type 0) → Answer → Type 0
OnRun P (refused r) = Unit {0}
OnRun P done = Unit {0}
OnRun P (lifted n) = Unit {0}
OnRun P (ran o n) = P o n
OnRun P (shown e r) = Unit {0}
OnRun P (listed r) = Unit {0}
OnRun P (sought o n) = Unit {0}
OnRun P (finished n) = Unit {0}

-- What is claimed if the answer is that of a seek.
abbrev pub OnSeek : (Finding → ℕ → Type 0) → Answer → Type 0
OnSeek P (refused r) = Unit {0}
OnSeek P done = Unit {0}
OnSeek P (lifted n) = Unit {0}
OnSeek P (ran o n) = Unit {0}
OnSeek P (shown e r) = Unit {0}
OnSeek P (listed r) = Unit {0}
OnSeek P (sought o n) = P o n
OnSeek P (finished n) = Unit {0}

-- What is claimed if the answer is a kept conflict.
abbrev pub OnKept : (Premises → Type 0) → Answer → Type 0
OnKept P (refused r) = Unit {0}
OnKept P done = Unit {0}
OnKept P (lifted n) = Unit {0}
OnKept P (ran o n) = Unit {0}
OnKept P (shown e r) = Unit {0}
OnKept P (listed r) = P r
OnKept P (sought o n) = Unit {0}
OnKept P (finished n) = Unit {0}

-- What is claimed if a run ended quiet.
abbrev pub OnQuiet : Type 0 → Outcome → Type 0
OnQuiet P quiet = P
OnQuiet P (conflict r) = Unit {0}
OnQuiet P spent = Unit {0}

-- What is claimed if a run ended in a conflict.
abbrev pub OnConflict : (Premises → Type 0) → Outcome → Type 0
OnConflict P quiet = Unit {0}
OnConflict P (conflict r) = P r
OnConflict P spent = Unit {0}

-- What is claimed if a seek answered found.
abbrev pub OnFound : Type 0 → Finding → Type 0
OnFound P found = P
OnFound P (none_left r) = Unit {0}
OnFound P full = Unit {0}
OnFound P tired = Unit {0}

-- What is claimed if a seek answered none.
abbrev pub OnNone : (Premises → Type 0) → Finding → Type 0
OnNone P found = Unit {0}
OnNone P (none_left r) = P r
OnNone P full = Unit {0}
OnNone P tired = Unit {0}

-- ---- 1: runs

module _ {F : Type 0} (m : Model F) (N : Net) where
  -- The cells are stable, and every stable table of the same premises tells at least as much in each cell.
  pub record Rested (s : State F) : Type 0 where
    pub stable : Stable m N.constraints s.force (facts s.board.table)
    pub least : (φ : ℕ → F) → Stable m N.constraints s.force φ → Above m φ s.board.table

  -- Exactly n steps lead from one board to the other: at most the number waiting before, plus the number of constraints times the size that the table lost.
  pub record Stepped (force : Premises) (n : ℕ) (b b' : Board F) : Type 0 where
    pub steps : Steps m N force n b b'
    pub lost : ℕ
    pub lost_is : table_size m N.cells b.table ≡ table_size m N.cells b'.table + lost
    pub bound : n ≤ count b.waits 512 + length N.constraints * lost

  -- Each granted run made exactly the steps that it reports, within the bound; after a quiet one the cells rest.
  abbrev pub RunsRight : List (Event F) → Event F → Type 0
  RunsRight es e = OnRun (λ o n. Stepped e.early.force n e.early.board e.late.board × OnQuiet (Rested e.late) o) e.answer

-- ---- 2: conflicts

-- The answer names the conflict r.
pub data Names (r : Premises) : Answer → Type 0 where
  by_run : (n : ℕ) → Names r (ran (conflict r) n)
  by_seek : (n : ℕ) → Names r (sought (none_left r) n)

-- Looking back through the events, one of them named the conflict r, with all of its premises in force.
abbrev pub Answered : {F : Type 0} → Premises → List (Event F) → Type 0
Answered r [] = ⊥
Answered r (e ∷ es) = (Names r e.answer × Within r e.late.force) ⊎ Answered r es

module _ {F : Type 0} (N : Net) where
  -- No placement meets these premises, and all of them are in force.
  abbrev pub Contradicted : State F → Premises → Type 0
  Contradicted s r = NoneMeets Placed N r × Within r s.force

  -- Whatever conflict run answers, or seek as none, no placement meets those premises, and all are in force; no placement meets one that kept answers, and run or seek answered it before.
  abbrev pub ConflictsRight : List (Event F) → Event F → Type 0
  ConflictsRight es e =
      OnRun (λ o n. OnConflict (Contradicted e.late) o) e.answer
      × OnSeek (λ o n. OnNone (Contradicted e.late) o) e.answer
      × OnKept (λ r. NoneMeets Placed N r × Answered r es) e.answer

-- ---- 3: searches

module _ {F : Type 0} (m : Model F) (N : Net) where
  -- Exactly n moves lead from one state to the other, in both of which a search is open.
  pub record Moved (n : ℕ) (s s' : State F) : Type 0 where
    pub trail : Trail
    pub trail' : Trail
    pub open_before : s.trail ≡ Some trail
    pub open_after : s'.trail ≡ Some trail'
    pub moves : Moves m N s.force n (record { board = s.board; trail = trail }) (record { board = s'.board; trail = trail' })

  -- The cells' numbers: the lowest of each.
  abbrev pub numbers : State F → Placement
  numbers s x = low m (s.board.table x).fact

  -- The cells' numbers are a placement that satisfies every constraint in force.
  abbrev pub Placing : State F → Type 0
  Placing s = Placed (numbers s) × Meets (numbers s) s.force N.constraints

  -- Each granted seek made exactly the moves that it reports; after found the cells' numbers satisfy every constraint in force; after none no placement meets the premises named, all of them in force.
  abbrev pub SeeksRight : List (Event F) → Event F → Type 0
  SeeksRight es e = OnSeek (λ o n. Moved n e.early e.late × OnFound (Placing e.late) o × OnNone (Contradicted N e.late) o) e.answer

-- ---- 4: what changes nothing

-- A refusal changes nothing, and read, kept and finish without a search change nothing.
abbrev pub Unchanged : {F : Type 0} → State F → Answer → State F → Type 0
Unchanged s (refused r) s' = s' ≡ s
Unchanged s done s' = Unit {0}
Unchanged s (lifted n) s' = Unit {0}
Unchanged s (ran o n) s' = Unit {0}
Unchanged s (shown e r) s' = s' ≡ s
Unchanged s (listed r) s' = s' ≡ s
Unchanged s (sought o n) s' = Unit {0}
Unchanged s (finished n) s' = s.trail ≡ None → (n ≡ 0) × (s' ≡ s)

abbrev pub RefusalsRight : {F : Type 0} → List (Event F) → Event F → Type 0
RefusalsRight es e = Unchanged e.early e.answer e.late

-- ---- 5: conflicts and stable tables

module _ {F : Type 0} (m : Model F) (N : Net) where
  -- Every stable table of the premises in force has a cell in conflict.
  abbrev pub Hopeless : State F → Type 0
  Hopeless s = (φ : ℕ → F) → Stable m N.constraints s.force φ → (x : ℕ) × (x < N.cells) × (none m (φ x) ≡ true)

  -- A run that answers conflict means that every stable table of the premises in force has a cell in conflict.
  abbrev pub ConflictsHopeless : List (Event F) → Event F → Type 0
  ConflictsHopeless es e = OnRun (λ o n. OnConflict (λ r. Hopeless e.late) o) e.answer

-- What is stable for more constraints is stable for fewer: where each of ks' that is in force under s' is one of ks that is in force under s.
abbrev pub StableForFewer : {F : Type 0} → Model F → Type 0
StableForFewer {F} m =
    (ks ks' : List Constraint) (s s' : Premises) (φ : ℕ → F) →
    ((j : ℕ) (k : Constraint) → slice_get ks' j ≡ Some k → InForce s' k → ((i : ℕ) × (slice_get ks i ≡ Some k)) × InForce s k) →
    Stable m ks s φ → Stable m ks' s' φ

-- ---- over every history

-- The claim holds of each event of every history of every network.
abbrev pub OverHistories : {F : Type 0} → Model F → (Net → List (Event F) → Event F → Type 0) → Type 0
OverHistories {F} m P = (N : Net) → Planned N → (es : List (Event F)) (s : State F) → History m N es s → Always (P N) es

-- All that is promised of the events of one history.
pub record Promised {F : Type 0} (m : Model F) (N : Net) (es : List (Event F)) : Type 0 where
  pub runs_right : Always (RunsRight m N) es
  pub conflicts_right : Always (ConflictsRight N) es
  pub seeks_right : Always (SeeksRight m N) es
  pub refusals_right : Always RefusalsRight es
  pub conflicts_hopeless : Always (ConflictsHopeless m N) es

-- All that is promised, over every history of every network.
pub record Promises {F : Type 0} (m : Model F) : Type 0 where
  pub promised : (N : Net) → Planned N → (es : List (Event F)) (s : State F) → History m N es s → Promised m N es
  pub stable_for_fewer : StableForFewer m
