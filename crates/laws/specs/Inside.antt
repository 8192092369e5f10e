-- What always holds inside a network: of its kept conflicts, and of the trail of its search.
use Rattle.std.specs.Prelude.{◌≡◌, ◌≤◌, false, List, [], ◌∷◌, length, Some}
use Rattle.std.specs.List.{AllByRecursion}
use Rattle.facts.specs.Model.{Model, Tells}
use Rattle.plan.specs.Placements.{Premises}
use Rattle.telling.specs.Tables.{Table}
use Rattle.calls.specs.Networks.{Net, Planned, within}
use Rattle.calls.specs.Running.{Clean}
use Rattle.calls.specs.Trails.{Trail, guesses, Word, words}
use Rattle.calls.specs.Keeping.{keep}
use Rattle.calls.specs.States.{State}
use Rattle.calls.specs.Histories.{Event, History}

-- No set of the list lies within another of it.
abbrev pub Apart : List Premises → Type 0
Apart [] = Unit {0}
Apart (k ∷ ks) = AllByRecursion (λ j. (within k j ≡ false) × (within j k ≡ false)) ks × Apart ks

-- The keeping rule keeps conflicts apart, and at most 64 of them.
pub record KeepsApart : Type 0 where
  pub keep_apart : (r : Premises) (ks : List Premises) → Apart ks → Apart (keep r ks)
  pub keep_few : (r : Premises) (ks : List Premises) → length ks ≤ 64 → length (keep r ks) ≤ 64

module _ {F : Type 0} (m : Model F) (N : Net) where
  -- The table tells what a word says.
  abbrev pub IsTold : Table F → Word → Type 0
  IsTold T w = Tells m (T w.cell).fact (m.stated w.says)

  -- A trail has at most 32 guesses and 512 entries; without a conflict every entry is told.
  pub record TrailRight (T : Table F) (t : Trail) : Type 0 where
    pub few_guesses : guesses t ≤ 32
    pub few_entries : length t ≤ 512
    pub all_told : Clean m N T → AllByRecursion (IsTold T) (words t)

-- After every history: the kept conflicts are apart and at most 64, and the trail of an open search is right.
pub record InsideRight {F : Type 0} (m : Model F) (N : Net) (s : State F) : Type 0 where
  pub kept_apart : Apart s.kept
  pub few_kept : length s.kept ≤ 64
  pub trail_right : (t : Trail) → s.trail ≡ Some t → TrailRight m N s.board.table t

abbrev pub StaysRight : {F : Type 0} → Model F → Type 0
StaysRight {F} m = (N : Net) → Planned N → (es : List (Event F)) (s : State F) → History m N es s → InsideRight m N s
