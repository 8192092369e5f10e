-- A new number joins the set and the end of the order; any other changes neither.
use Rattle.std.proofs.Common.{◌≡◌, length, sym, ◌∙◌, inl, inr, arith, rules}
use Rattle.agenda.proofs.Turning.{order_push}
use Rattle.agenda.proofs.Keeping.{kept, kept_as, within, put_room, put-kept, put_order, same_order}
use Rattle.agenda.proofs.ring.Ring.put.Goals.{then-k-ge512-via-then-k-ge512, then-k-ge512-via-else-k-ge512+then-has}
use Rattle.agenda.proofs.ring.Ring.put.Goals as goal

pub returns-then-k-ge512-clause-order : goal.returns-then-k-ge512-clause-order
returns-then-k-ge512-clause-order c =
    let known = kept c.args.self.now in
    elim c.then-k-ge512.branch [
      | then-k-ge512-via-then-k-ge512 w ↦ same_order known c.args.k (inl w.if-k-ge512.true)
      | then-k-ge512-via-else-k-ge512+then-has w ↦ same_order known c.args.k (inr (sym w.if-has.ensures))
    ]

pub overflow_add-self : goal.overflow_add-self
overflow_add-self c = let ring = c.args.self.now in omega (arith, within (kept ring), ring.inside)

pub overflow_add-self-2 : goal.overflow_add-self-2
overflow_add-self-2 c = omega (arith, within (kept c.args.self.now))

pub invariant_of-self : goal.invariant_of-self
invariant_of-self c =
    let ring = c.args.self.now in
    let k = c.args.k in
    let small = c.if-k-ge512.false in
    let new = sym c.if-has.ensures in
    let room = put_room (kept ring) k small new _ c.insert.ensures in
    let long : length ring.items ≡ 512 = search rules in
    let after = kept_as _ _ _ _ (sym (order_push ring.items ring.head ring.len k long room)) (put-kept (kept ring) k small new _ c.insert.ensures) in
    record { agrees = after.agrees; once = after.once; counted = after.counted; inside = ring.inside }

pub returns-clause-order : goal.returns-clause-order
returns-clause-order c =
    let ring = c.args.self.now in
    let k = c.args.k in
    let small = c.if-k-ge512.false in
    let new = sym c.if-has.ensures in
    let room = put_room (kept ring) k small new _ c.insert.ensures in
    let long : length ring.items ≡ 512 = search rules in
    order_push ring.items ring.head ring.len k long room ∙ put_order (kept ring) k small new _ c.insert.ensures
