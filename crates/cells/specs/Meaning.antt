-- What reasons, cells and lent tables of them mean, and which tells fit a table of a length.
use Rattle.std.specs.Prelude.{ℕ, ◌<◌, List, map, slice_index_or}
use Rattle.std.specs.List.{AllByRecursion}
use Rattle.facts.specs.Model.{Model}
use Rattle.forms.specs.Tells.{condition_reads, saying_reads, NearCondition, NearSaying}
use Rattle.forms.specs.declared.tell.Condition.{Condition}
use Rattle.forms.specs.declared.tell.Saying.{Saying}
use Rattle.forms.specs.declared.tell.Tell.{Tell}
use Rattle.sets.specs.Small.{holds}
use Rattle.telling.specs.Reasons as theory
use Rattle.telling.specs.Reasons.{premise, guess}
use Rattle.telling.specs.Tables as tables
use Rattle.telling.specs.Tables.{Table, start_cell}
use Rattle.cells.specs.declared.cell.Cell.{Cell}
use Rattle.cells.specs.declared.reasons.Reasons.{Reasons}

-- The set of premises and guesses that reasons are.
abbrev pub tags_of : Reasons → theory.Reasons
tags_of r (premise p) = holds r.premises p
tags_of r (guess g) = holds r.guesses g

-- The cell as the definitions of telling take it.
abbrev pub cell_of : {F : Type 0} → Cell F → tables.Cell F
cell_of c = record { fact = c.fact; reasons = tags_of c.reasons }

-- The table that a slice is; past its end nothing is known.
abbrev pub table_of : {F : Type 0} → Model F → List (Cell F) → Table F
table_of m xs x = slice_index_or (map cell_of xs) x (start_cell m)

-- Each of the cells is one of the first n.
abbrev pub Inside : ℕ → List ℕ → Type 0
Inside n xs = AllByRecursion (λ x. x < n) xs

-- The condition reads the first n cells, and its distance is a number of U.
abbrev pub FitCondition : ℕ → Condition → Type 0
FitCondition n c = Inside n (condition_reads c) × NearCondition c

-- The saying reads the first n cells, and its distance is a number of U.
abbrev pub FitSaying : ℕ → Saying → Type 0
FitSaying n s = Inside n (saying_reads s) × NearSaying s

-- The tell reads and tells the first n cells, and its distances are numbers of U.
pub record FitTell (n : ℕ) (t : Tell) : Type 0 where
  pub target : t.target < n
  pub condition : FitCondition n t.condition
  pub saying : FitSaying n t.saying
