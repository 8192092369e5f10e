-- The first number leaves the order and the set.
use Rattle.std.proofs.Common.{◌≡◌, suc, arith, rules}
use Rattle.sets.specs.Members.{Nobody}
use Rattle.agenda.specs.Rings.{waits_in}
use Rattle.agenda.proofs.Turning.{order_none, order-front}
use Rattle.agenda.proofs.Distinct.{parts_first}
use Rattle.agenda.proofs.Keeping.{kept, none_waits, take-waits, take-kept}
use Rattle.agenda.proofs.ring.Ring.take_oldest.Goals as goal

pub returns-in_err-self-clause-waiting : goal.returns-in_err-self-clause-waiting
returns-in_err-self-clause-waiting c =
    let ring = c.args.self.now in
    let none : Nobody (waits_in ring) = none_waits (kept ring) (order_none ring.items ring.head ring.len (search rules)) in
    search rules

pub invariant_of-self : goal.invariant_of-self
invariant_of-self c =
    let ring = c.args.self.now in
    let rest = c.in_ok-self.field-0 in
    let more : ring.len ≡ suc rest = omega (arith, c.in_ok-self.ensures) in
    let after = take-kept (kept ring) _ _ (parts_first _ _ _ (order-front ring.items ring.head ring.len rest ring.inside more) ring.once) _ c.remove.ensures rest more in
    record { agrees = after.agrees; once = after.once; counted = after.counted; inside = search rules }

pub returns-clause-waiting : goal.returns-clause-waiting
returns-clause-waiting c =
    let ring = c.args.self.now in
    let front = order-front ring.items ring.head ring.len c.in_ok-self.field-0 ring.inside (omega (arith, c.in_ok-self.ensures)) in
    (take-waits (kept ring) _ _ (parts_first _ _ _ front ring.once), c.remove.ensures)

pub returns-clause-order : goal.returns-clause-order
returns-clause-order c =
    let ring = c.args.self.now in
    order-front ring.items ring.head ring.len c.in_ok-self.field-0 ring.inside (omega (arith, c.in_ok-self.ensures))
