-- What the loop keeps, and why it ends: the count of the numbers that wait.
use Rattle.std.proofs.Common.{◌≡◌, ◌+◌}
use Rattle.sets.specs.Members.{count}
use Rattle.agenda.proofs.drain.drain.Given as goal

-- What was taken and what still waits are together what waited at first.
abbrev pub invariant-loop-taken : goal.invariant-loop-taken
invariant-loop-taken g l = l.taken + count (g.A.Agenda.waits l.agenda) 512 ≡ count (g.A.Agenda.waits l.initial.agenda) 512

abbrev pub decreases-loop-taken : goal.decreases-loop-taken
decreases-loop-taken g l = count (g.A.Agenda.waits l.agenda) 512
