-- What it is for a closure over constraints to make a test of the contracts.
use Rattle.std.specs.Prelude.{◌≡◌, Bool, false, Some, None, Option}
use Rattle.plan.specs.declared.constraint.Constraint.{Constraint}

-- Its answers are those of the test, which fails where there is no constraint.
abbrev pub AnswersAs : (Constraint → Bool → Type 0) → (Option Constraint → Bool) → Type 0
AnswersAs answers test = (test None ≡ false) × ((k : Constraint) (b : Bool) → answers k b → b ≡ test (Some k))
