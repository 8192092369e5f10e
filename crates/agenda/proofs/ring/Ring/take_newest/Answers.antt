-- The last number leaves the order and the set.
use Rattle.std.proofs.Common.{◌≡◌, suc, arith, rules}
use Rattle.sets.specs.Members.{Nobody}
use Rattle.agenda.specs.Rings.{waits_in}
use Rattle.agenda.proofs.Turning.{order_none, order_back}
use Rattle.agenda.proofs.Distinct.{parts_last}
use Rattle.agenda.proofs.Keeping.{kept, within, none_waits, take-kept}
use Rattle.agenda.proofs.ring.Ring.take_newest.Goals as goal

pub returns-in_err-self-clause-waiting : goal.returns-in_err-self-clause-waiting
returns-in_err-self-clause-waiting c =
    let ring = c.args.self.now in
    let none : Nobody (waits_in ring) = none_waits (kept ring) (order_none ring.items ring.head ring.len (search rules)) in
    search rules

pub overflow_add-k : goal.overflow_add-k
overflow_add-k c = let ring = c.args.self.now in omega (arith, within (kept ring), ring.inside, c.in_ok-self.ensures)

pub invariant_of-self : goal.invariant_of-self
invariant_of-self c =
    let ring = c.args.self.now in
    let rest = c.in_ok-self.field-0 in
    let more : ring.len ≡ suc rest = omega (arith, c.in_ok-self.ensures) in
    let after = take-kept (kept ring) _ _ (parts_last _ _ _ (order_back ring.items ring.head ring.len rest more) ring.once) _ c.remove.ensures rest more in
    record { agrees = after.agrees; once = after.once; counted = after.counted; inside = ring.inside }

pub returns-clause-order : goal.returns-clause-order
returns-clause-order c = let ring = c.args.self.now in order_back ring.items ring.head ring.len c.in_ok-self.field-0 (omega (arith, c.in_ok-self.ensures))
