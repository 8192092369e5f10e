-- What the walk over the constraints keeps.
use Rattle.std.proofs.Common.{Bool, ltb, Option}
use Rattle.std.specs.Fn.{FnReturnsAt}
use Rattle.std.specs.List.{slice_get}
use Rattle.plan.specs.declared.constraint.Constraint.{Constraint}
use Rattle.wakes.specs.Indexes.{constraints_in}
use Rattle.wakes.specs.Passing.{AnswersAs}
use Rattle.wakes.proofs.Waking.{Waking}
use Rattle.wakes.proofs.index.Index.wake_passing.Given as goal

-- Of the constraints so far those that pass were put.
abbrev pub invariant-loop-i : goal.invariant-loop-i
invariant-loop-i g l =
    (test : Option Constraint → Bool) → AnswersAs (FnReturnsAt g.F.Fn l.passes) test
    → Waking (g.A.Agenda.waits l.initial.agenda) (λ j. ltb j l.i) (λ j. test (slice_get (constraints_in l.self) j)) (g.A.Agenda.waits l.agenda)
