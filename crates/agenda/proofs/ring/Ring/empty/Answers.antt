-- A ring of no length with an empty set is empty.
use Rattle.std.proofs.Common.{refl}
use Rattle.agenda.proofs.Turning.{order_none}
use Rattle.agenda.proofs.Keeping.{kept_none}
use Rattle.agenda.proofs.ring.Ring.empty.Goals as goal

pub invariant_of-self : goal.invariant_of-self
invariant_of-self c =
    let ring = c.args.self.now in
    let k = kept_none _ _ 0 c.none-self.ensures (order_none ring.items ring.head 0 refl) refl in
    record { agrees = k.agrees; once = k.once; counted = k.counted; inside = ring.inside }

pub returns-clause-order : goal.returns-clause-order
returns-clause-order c = order_none _ _ 0 refl
