-- What the readers of lines and texts answer.
use Rattle.std.specs.Prelude.{◌≡◌, ℕ, List, None, Ok, Err, Result}
use Rattle.words.specs.declared.ReadError.{ReadError as Unread}
use Rattle.words.specs.declared.ReadError.TheVariants as unread
use Rattle.faults.specs.declared.Fault.{Fault}
use Rattle.grammar.specs.Tree.{Line}
use Rattle.grammar.specs.Parse.{wrong, deeper, short}
use Rattle.plan.specs.declared.draft.Draft.{Draft}
use Rattle.plan.specs.Items.{Items, nothing, drafted}
use Rattle.plan.specs.Names.{Texts}
use Rattle.meaning.specs.Solutions.{SameSolutions}
use Rattle.sheet.specs.declared.line.Start.{Start}
use Rattle.sheet.specs.declared.reading.Stop.{Stop}
use Rattle.sheet.specs.declared.reading.Stop.TheVariants as stop
use Rattle.sheet.specs.declared.sheets.ReadError.{ReadError}
use Rattle.sheet.specs.declared.sheets.ReadError.TheVariants as error
use Rattle.sheet.specs.declared.sheets.Trouble.{Trouble}
use Rattle.sheet.specs.declared.sheets.Trouble.TheVariants as trouble
use Rattle.sheet.specs.Progress.{Progress}
use Rattle.sheet.specs.Sheets.{slip_problem, refusal_found, checked, line_read, lines_read, lines_of}

-- a line whose words cannot be read
abbrev pub unworded : Unread → Trouble
unworded unread.Memory = trouble.Memory
unworded (unread.Fault s c) = trouble.Found (record { problem = slip_problem s; column = c })

-- what a line of n bytes that stops so is faulty for
abbrev pub stopped : ℕ → Stop → Trouble
stopped n stop.Memory = trouble.Memory
stopped n (stop.Word c) = trouble.Found (refusal_found n (wrong c))
stopped n (stop.Deep c) = trouble.Found (refusal_found n (deeper c))
stopped n stop.Short = trouble.Found (refusal_found n short)

-- trouble in line k of text t
abbrev pub fault_at : ℕ → ℕ → Trouble → ReadError
fault_at t k trouble.Memory = error.Memory
fault_at t k (trouble.Found f) = error.Fault (record { problem = f.problem; text = t; line = k; column = f.column })

-- a line whose words are a line: what its names, its numbers and the limits of a plan say
abbrev pub Ended : Result (Unit {0}) Trouble → Progress → Type 0
Ended (Ok u) p = (checked p.found p.items ≡ Ok p.items) × (p.found ≡ None)
Ended (Err trouble.Memory) p = ⊥
Ended (Err (trouble.Found f)) p = checked p.found p.items ≡ Err f

-- what is read so far of a line or of a text, with nothing wrong
pub record Fine (p e : Progress) : Type 0 where
  pub texts : e.texts ≡ p.texts
  pub found : e.found ≡ None

-- a line of bytes; want of memory tells nothing
abbrev pub LineReads : Result (Unit {0}) Trouble → Start → Progress → List ℕ → Progress → Type 0
LineReads (Ok u) s p bytes e = (line_read p.texts s.text s.offset p.items bytes ≡ Ok e.items) × Fine p e
LineReads (Err trouble.Memory) s p bytes e = Unit {0}
LineReads (Err (trouble.Found f)) s p bytes e = line_read p.texts s.text s.offset p.items bytes ≡ Err f

-- the lines of a text; want of memory tells nothing
abbrev pub TextReads : Result (Unit {0}) ReadError → ℕ → Progress → List ℕ → Progress → Type 0
TextReads (Ok u) t p text e = (lines_read p.texts t 1 0 (lines_of text) p.items ≡ Ok e.items) × Fine p e
TextReads (Err error.Memory) t p text e = Unit {0}
TextReads (Err (error.Fault f)) t p text e = lines_read p.texts t 1 0 (lines_of text) p.items ≡ Err f

-- two texts, as a draft
abbrev pub BothRead : Result Draft ReadError → Result Items Fault → Type 0
BothRead (Ok d) x = x ≡ Ok (drafted d)
BothRead (Err error.Memory) x = Unit {0}
BothRead (Err (error.Fault f)) x = x ≡ Err f

-- two texts: the plan is exactly what they are read as, or empty where they are faulty or memory is wanting
abbrev pub Reads : Result (Unit {0}) ReadError → Result Items Fault → Items → Type 0
Reads (Ok u) x d = x ≡ Ok d
Reads (Err error.Memory) x d = d ≡ nothing
Reads (Err (error.Fault f)) x d = (x ≡ Err f) × (d ≡ nothing)

-- whatever plan is answered has the solutions of the lines
abbrev pub Solved : Result (Unit {0}) ReadError → Texts → List Line → Items → Type 0
Solved (Ok u) ts ls d = SameSolutions ts ls d
Solved (Err e) ts ls d = Unit {0}
