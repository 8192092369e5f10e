-- What stands in the lines of plans and faults, as bytes.
use Rattle.std.specs.Prelude.{ℕ, List, ◌++◌, length, Some, None, codes, decimal, Option}
use Rattle.std.specs.Fmt.{signed_decimal}
use Rattle.faults.specs.declared.Fault.{Fault}
use Rattle.faults.specs.Faults.{number_of, layer_of, layer_word}
use Rattle.plan.specs.Items.{Items}
use Rattle.plan.specs.declared.constraint.Constraint.{Constraint}
use Rattle.plan.specs.declared.constraint.Form.{Form}
use Rattle.plan.specs.declared.constraint.Form.TheVariants.{State, Sum, Gap, Apart}
use Rattle.statements.specs.declared.statement.Statement.{Statement}
use Rattle.statements.specs.declared.statement.Statement.TheVariants.{Between, Aligned}

-- the number of the premise that owns a constraint, or `-`
abbrev pub owner_word : Option ℕ → List ℕ
owner_word None = codes "-"
owner_word (Some p) = decimal p

-- `in LO HI` or `align K R`
abbrev pub statement_words : Statement → List ℕ
statement_words (Between lo hi) = codes "in " ++ (signed_decimal lo ++ (codes " " ++ signed_decimal hi))
statement_words (Aligned a) = codes "align " ++ (decimal a.k ++ (codes " " ++ decimal a.r))

-- `state C ..`, `sum A B C`, `gap A D B` or `apart A D B E`
abbrev pub form_words : Form → List ℕ
form_words (State c s) = codes "state " ++ (decimal c ++ (codes " " ++ statement_words s))
form_words (Sum a b c) = codes "sum " ++ (decimal a ++ (codes " " ++ (decimal b ++ (codes " " ++ decimal c))))
form_words (Gap a d b) = codes "gap " ++ (decimal a ++ (codes " " ++ (signed_decimal d ++ (codes " " ++ decimal b))))
form_words (Apart a d b e) = codes "apart " ++ (decimal a ++ (codes " " ++ (decimal d ++ (codes " " ++ (decimal b ++ (codes " " ++ decimal e))))))

-- `constraint I OWNER ..`
abbrev pub constraint_line : ℕ → Constraint → List ℕ
constraint_line i k = codes "constraint " ++ (decimal i ++ (codes " " ++ (owner_word k.owner ++ (codes " " ++ form_words k.form))))

-- `fault NUMBER LAYER TEXT LINE COLUMN`
abbrev pub fault_line : Fault → List ℕ
fault_line x = codes "fault " ++ (decimal (number_of x.problem) ++ (codes " " ++ (layer_word (layer_of x.problem) ++ (codes " " ++ (decimal x.text ++ (codes " " ++ (decimal x.line ++ (codes " " ++ decimal x.column))))))))

-- `plan CELLS CONSTRAINTS PREMISES`
abbrev pub counts_line : Items → List ℕ
counts_line d = codes "plan " ++ (decimal (length d.cells) ++ (codes " " ++ (decimal (length d.constraints) ++ (codes " " ++ decimal (length d.premises)))))
