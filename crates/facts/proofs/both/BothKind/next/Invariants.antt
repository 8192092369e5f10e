-- What holds at each turn, and why the turns end.
use Rattle.facts.proofs.Turns.{room_above, PassedUp}
use Rattle.facts.proofs.both.BothKind.next.Given as goal

abbrev pub invariant-loop-self : goal.invariant-loop-self
invariant-loop-self g l = PassedUp (g.A.Kind.model.allows l.fn.self.first) (g.B.Kind.model.allows l.fn.self.second) l.n l.from

abbrev pub decreases-loop-self : goal.decreases-loop-self
decreases-loop-self g l = room_above l.from
