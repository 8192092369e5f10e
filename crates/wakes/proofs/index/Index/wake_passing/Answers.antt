-- Each constraint is put if it passes.
use Rattle.std.proofs.Common.{◌+◌, ltb, length, sym, ap, ◌∙◌, arith, rules}
use Rattle.std.specs.Fn.{FnReturnsAt}
use Rattle.wakes.specs.Indexes.{constraints_in}
use Rattle.wakes.proofs.Waking.{waking_put, waking_skip, waking_walk, nth_passes, below_more}
use Rattle.wakes.proofs.index.Index.wake_passing.Goals.{then-passes, else-passes}
use Rattle.wakes.proofs.index.Index.wake_passing.Goals as goal

pub loop-i-preserved : goal.loop-i-preserved
loop-i-preserved g c test known =
    let ks = constraints_in c.args.self.now in
    let i = c.loop-i.i in
    let answer : FnReturnsAt g.F.Fn c.args.passes c.k-item.result c.passes.result = search rules in
    let passes =
    nth_passes test ks c.deref-k-items.result.now i c.k-item.result c.passes.result (known.1 c.k-item.result c.passes.result answer) c.deref-k-items.ensures.value c.loop-i-test.true c.k-item.is in
    elim c.if-passes.branch [
      | then-passes w ↦ rw w.agenda-is
          (waking_put (c.loop-i.invariant test known) (λ j. ltb j (i + 1)) i (below_more i) (g.A.Agenda.waits w.put.new.self)
          (omega (arith, c.args.self.now.few, ap length c.deref-k-items.ensures.value, c.loop-i-test.true)) (sym passes ∙ w.if-passes.true) w.put.ensures)
      | else-passes w ↦ rw w.agenda-is
          (waking_skip (c.loop-i.invariant test known) (λ j. ltb j (i + 1)) i (below_more i) (sym passes ∙ w.if-passes.false))
    ]

pub returns : goal.returns
returns g c test known =
    let ks = constraints_in c.args.self.now in
    waking_walk test ks (g.A.Agenda.waits c.args.agenda.now) (g.A.Agenda.waits c.loop-i.agenda) c.loop-i.i known.0
    (omega (arith, ap length c.deref-k-items.ensures.value, c.loop-i-test.false)) (c.loop-i.invariant test known)
