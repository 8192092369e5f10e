-- What the walk over the part of a cell keeps.
use Rattle.std.proofs.Common.{take}
use Rattle.std.specs.List.{slice_get}
use Rattle.sets.specs.Members.{among}
use Rattle.sets.specs.Small.{holds}
use Rattle.calls.specs.Calls.{standing}
use Rattle.wakes.specs.Indexes.{constraints_in}
use Rattle.wakes.proofs.Waking.{Waking}
use Rattle.wakes.proofs.index.Index.wake.Given as goal

-- Of the part so far the constraints in force were put.
abbrev pub invariant-loop-number : goal.invariant-loop-number
invariant-loop-number g l =
    Waking (g.A.Agenda.waits l.initial.agenda) (λ j. among j (take l.number-index l.number-items)) (λ j. standing (holds l.force) (slice_get (constraints_in l.self) j)) (g.A.Agenda.waits l.agenda)
