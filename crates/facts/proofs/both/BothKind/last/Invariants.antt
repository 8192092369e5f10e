-- What holds at each turn, and why the turns end.
use Rattle.facts.proofs.Turns.{room_below, PassedDown}
use Rattle.facts.proofs.both.BothKind.last.Given as goal

abbrev pub invariant-loop-self : goal.invariant-loop-self
invariant-loop-self g l = PassedDown (g.A.Kind.model.allows l.fn.self.first) (g.B.Kind.model.allows l.fn.self.second) l.n l.to

abbrev pub decreases-loop-self : goal.decreases-loop-self
decreases-loop-self g l = room_below l.to
