-- What two texts are read as: line by line, the first faulty line, on it reader, grammar and sheet in turn, each from the left.
use Rattle.std.specs.Prelude.{ℕ, ◌+◌, cond, List, [], ◌∷◌, ◌++◌, map, length, Some, None, Ok, Err, Option, Result, ◌==◌, nat_lt}
use Rattle.std.specs.List.{slice_split}
use Rattle.words.specs.declared.Slip.{Slip}
use Rattle.words.specs.declared.Slip.TheVariants as slip
use Rattle.words.specs.Words.{Spot, words_of}
use Rattle.grammar.specs.Tree.{Line, blank}
use Rattle.grammar.specs.Parse.{Outcome, read, refused, Refusal, wrong, deeper, short, parse_line}
use Rattle.faults.specs.declared.Fault.{Fault}
use Rattle.faults.specs.declared.Found.{Found}
use Rattle.faults.specs.declared.Problem.{Problem}
use Rattle.faults.specs.declared.Problem.TheVariants as problem
use Rattle.plan.specs.Items.{Items, nothing, few}
use Rattle.plan.specs.Names.{Texts}
use Rattle.meaning.specs.Making.{line_makes}
use Rattle.meaning.specs.Checks.{line_fault}
use Rattle.sheet.specs.Reads.{limit}

-- the lines of a text: each ends with byte 10, the last with the text
abbrev pub lines_of : List ℕ → List (List ℕ)
lines_of text = slice_split (λ b. b == 10) text

-- ---- the reader

abbrev pub slip_problem : Slip → Problem
slip_problem slip.Byte = problem.Byte
slip_problem slip.Large = problem.LargeNumber
slip_problem slip.Long = problem.LongName

-- ---- the grammar: a line of n bytes that is too short lacks a word just past its end

abbrev pub refusal_found : ℕ → Refusal → Found
refusal_found n (wrong c) = record { problem = problem.Word; column = c }
refusal_found n (deeper c) = record { problem = problem.Nesting; column = c }
refusal_found n short = record { problem = problem.Word; column = n + 1 }

-- ---- the sheet: names and numbers first, then the limits of a plan, at the line's first byte

abbrev pub limited : Items → Result Items Found
limited d = cond (few d) (Ok d) (Err (record { problem = problem.Full; column = 1 }))

abbrev pub checked : Option Found → Items → Result Items Found
checked (Some f) d = Err f
checked None d = limited d

-- ---- a line at an offset of text t, after what was read before it

abbrev pub parsed : Texts → ℕ → ℕ → ℕ → Items → Outcome → Result Items Found
parsed ts t o n d (refused r) = Err (refusal_found n r)
parsed ts t o n d (read l) = checked (line_fault ts d l) (line_makes ts t o l d)

abbrev pub worded : Texts → ℕ → ℕ → ℕ → Items → Result (List Spot) (Slip × ℕ) → Result Items Found
worded ts t o n d (Err f) = Err (record { problem = slip_problem f.0; column = f.1 })
worded ts t o n d (Ok ws) = parsed ts t o n d (parse_line limit ws)

unfoldable pub line_read : Texts → ℕ → ℕ → Items → List ℕ → Result Items Found
line_read ts t o d bytes = worded ts t o (length bytes) d (words_of bytes)

-- ---- lines one after the other, from line k at an offset of text t

abbrev pub onward : ℕ → ℕ → Result Items Found → (Items → Result Items Fault) → Result Items Fault
onward t k (Ok d) more = more d
onward t k (Err f) more = Err (record { problem = f.problem; text = t; line = k; column = f.column })

unfoldable pub lines_read : Texts → ℕ → ℕ → ℕ → List (List ℕ) → Items → Result Items Fault
lines_read ts t k o [] d = Ok d
lines_read ts t k o (l ∷ ls) d = onward t k (line_read ts t o d l) (λ e. lines_read ts t (k + 1) (o + length l + 1) ls e)

-- ---- two texts: their lengths before any line, the chip text's first

-- how many bytes a text may have
abbrev pub longest : ℕ
longest = 32768

abbrev pub too_long : ℕ → Fault
too_long t = record { problem = problem.LongText; text = t; line = 1; column = 1 }

abbrev pub and_then : Result Items Fault → (Items → Result Items Fault) → Result Items Fault
and_then (Ok d) more = more d
and_then (Err f) more = Err f

unfoldable pub sheets_read : List ℕ → List ℕ → Result Items Fault
sheets_read chip project =
    cond (nat_lt longest (length chip)) (Err (too_long 0))
    (cond (nat_lt longest (length project)) (Err (too_long 1))
    (and_then (lines_read (chip ∷ project ∷ []) 0 1 0 (lines_of chip) nothing)
    (λ d. lines_read (chip ∷ project ∷ []) 1 1 0 (lines_of project) d)))

-- ---- what the lines of two texts say

abbrev pub tree_read : Outcome → Line
tree_read (read l) = l
tree_read (refused r) = blank

abbrev pub tree_worded : Result (List Spot) (Slip × ℕ) → Line
tree_worded (Ok ws) = tree_read (parse_line limit ws)
tree_worded (Err f) = blank

-- the tree of a line, nothing where it is faulty
unfoldable pub tree_of : List ℕ → Line
tree_of bytes = tree_worded (words_of bytes)

-- the trees of the lines of two texts, in their order
unfoldable pub trees_of : List ℕ → List ℕ → List Line
trees_of chip project = map tree_of (lines_of chip) ++ map tree_of (lines_of project)
