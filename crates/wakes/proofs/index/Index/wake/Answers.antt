-- Each constraint of the part is there, and is put if it is in force.
use Rattle.std.proofs.Common.{◌≡◌, ℕ, ◌+◌, ◌<◌, ◌||◌, eqb, length, take, Some, sym, refl, ap, ◌∙◌, arith, rules}
use Rattle.std.specs.List.{slice_get}
use Rattle.sets.specs.Members.{among}
use Rattle.sets.specs.Small.{holds}
use Rattle.calls.specs.Calls.{standing}
use Rattle.wakes.specs.Indexes.{constraints_in}
use Rattle.wakes.proofs.Waking.{waking_none, waking_put, waking_skip, waking_part, nth_passes, part-inside, among-zero, among_more}
use Rattle.wakes.proofs.index.Index.wake.Goals.{then-is_in_force, else-is_in_force}
use Rattle.wakes.proofs.index.Index.wake.Goals as goal

pub loop-number-init : goal.loop-number-init
loop-number-init g c =
    let xs = c.part-number-items.result.now in
    waking_none (g.A.Agenda.waits c.args.agenda.now) (λ j. among j (take 0 xs)) (λ j. standing (holds c.args.force) (slice_get (constraints_in c.args.self.now) j)) (among-zero xs)

pub index-requires : goal.index-requires
index-requires g c =
    let in' = part-inside (constraints_in c.args.self.now) c.args.cell c.part-number-items.result.now c.part-number-items.ensures c.loop-number.number-index c.loop-number-test.true in
    omega (arith, in', c.args.self.now.constraints.ok.0, c.from-i.ensures)

pub loop-number-preserved : goal.loop-number-preserved
loop-number-preserved g c =
    let ks = constraints_in c.args.self.now in
    let xs = c.part-number-items.result.now in
    let at = c.loop-number.number-index in
    let in' = part-inside ks c.args.cell xs c.part-number-items.ensures at c.loop-number-test.true in
    let i = c.from-i.result in
    let stands = standing (holds c.args.force) in
    let there : i < length ks = omega (arith, in', c.from-i.ensures) in
    let answer : c.is_in_force.result ≡ stands (Some c.index.result.now) = search rules in
    let passes = nth_passes stands ks ks i c.index.result.now c.is_in_force.result answer refl there c.index.ensures in
    let grown = λ (j : ℕ). among_more xs at c.loop-number-test.true j ∙ ap (λ n. eqb j n || among j (take at xs)) (sym c.from-i.ensures) in
    elim c.if-is_in_force.branch [
      | then-is_in_force w ↦ rw w.agenda-is
          (waking_put c.loop-number.invariant (λ j. among j (take (at + 1) xs)) i grown (g.A.Agenda.waits w.put.new.self) (omega (arith, there, c.args.self.now.few)) (sym passes ∙ w.if-is_in_force.true) w.put.ensures)
      | else-is_in_force w ↦ rw w.agenda-is
          (waking_skip c.loop-number.invariant (λ j. among j (take (at + 1) xs)) i grown (sym passes ∙ w.if-is_in_force.false))
    ]

pub returns : goal.returns
returns g c =
    waking_part (constraints_in c.args.self.now) c.args.cell c.part-number-items.result.now c.part-number-items.ensures (holds c.args.force) (g.A.Agenda.waits c.args.agenda.now)
    (g.A.Agenda.waits c.loop-number.agenda) c.loop-number.number-index c.loop-number-test.false c.loop-number.invariant
