-- Each number that is taken lowers the count of those that wait by one.
use Rattle.std.proofs.Common.{◌≡◌, ◌+◌, arith}
use Rattle.sets.specs.Members.{count}
use Rattle.sets.proofs.Counts.{count_le, count_none, count_parted}
use Rattle.agenda.proofs.drain.drain.Given as given
use Rattle.agenda.proofs.drain.drain.Goals as goal

-- The number was counted before it was taken, and is not counted after.
fell : (g : given.Over) (c : goal.In-Some g) → count (g.A.Agenda.waits c.loop-taken.agenda) 512 ≡ count (g.A.Agenda.waits c.take.new.self) 512 + 1
fell g c =
    let took = c.in-Some.ensures in
    count_parted (g.A.Agenda.waits c.loop-taken.agenda) (g.A.Agenda.waits c.take.new.self) c.in-Some.field-0 512
    (g.met.A.Agenda.below c.loop-taken.agenda c.in-Some.field-0 took.0) took.0 took.1

pub overflow_add-taken : goal.overflow_add-taken
overflow_add-taken g c =
    let all = count_le (g.A.Agenda.waits c.args.agenda.now) 512 in
    omega (arith, c.loop-taken.invariant, all)

pub loop-taken-smaller : goal.loop-taken-smaller
loop-taken-smaller g c = omega (arith, fell g c)

pub loop-taken-preserved : goal.loop-taken-preserved
loop-taken-preserved g c = omega (arith, fell g c, c.loop-taken.invariant)

pub returns-clause-taken : goal.returns-clause-taken
returns-clause-taken g c = omega (arith, count_none (g.A.Agenda.waits c.loop-taken.agenda) 512 c.in_default.ensures.0, c.loop-taken.invariant)
