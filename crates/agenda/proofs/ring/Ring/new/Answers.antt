-- A new ring is empty, in its set and in its order.
use Rattle.std.proofs.Common.{replicate, refl, rules}
use Rattle.agenda.proofs.Turning.{order_none}
use Rattle.agenda.proofs.Keeping.{kept_none}
use Rattle.agenda.proofs.ring.Ring.new.Goals as goal

pub invariant_of-result : goal.invariant_of-result
invariant_of-result c =
    let k = kept_none _ _ 0 c.none.ensures (order_none (replicate 512 0) 0 0 refl) refl in
    record { agrees = k.agrees; once = k.once; counted = k.counted; inside = search rules }

pub returns-clause-order : goal.returns-clause-order
returns-clause-order c = order_none (replicate 512 0) 0 0 refl
