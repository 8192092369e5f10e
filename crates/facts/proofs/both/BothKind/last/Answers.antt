-- What the two parts have in common from n down, by turns.
use Rattle.std.proofs.Common.{arith, w64, to_z, of_z}
use Rattle.std.proofs.lemmas.Int.{ints}
use Rattle.facts.proofs.Turns.{room_below_falls, last_none, last_agree, last_on}
use Rattle.facts.proofs.both.BothKind.last.Goals as goal

pub returns-in_err-w : goal.returns-in_err-w
returns-in_err-w g c =
    last_none _ _ _ _ c.in_ok-v.v _ _ (omega (arith, ints)) (omega (arith, ints)) _ c.loop-self.invariant c.in_ok-v.ensures c.in_err-w.ensures c.from_residual-in_err-w.ensures

pub returns-then-w-v : goal.returns-then-w-v
returns-then-w-v g c =
    last_agree _ _ _ _ c.in_ok-v.v _ _ (omega (arith, ints)) (omega (arith, ints)) c.in_ok-w.w c.loop-self.invariant c.in_ok-v.ensures c.in_ok-w.ensures (omega (arith, ints))

pub loop-self-smaller : goal.loop-self-smaller
loop-self-smaller g c =
    let p = c.in_ok-v.ensures in
    let q = c.in_ok-w.ensures in
    let u = g.met.B.Kind.lawful.allows_within c.args.self.second c.in_ok-w.w q.1 in
    room_below_falls (to_z w64 c.loop-self.to-bits) (to_z w64 (of_z w64 c.in_ok-w.w)) (omega (arith, ints)) (omega (arith, ints))

pub loop-self-preserved : goal.loop-self-preserved
loop-self-preserved g c =
    last_on _ _ _ _ c.in_ok-v.v _ c.in_ok-w.w _ (omega (arith, ints)) (omega (arith, ints)) c.loop-self.invariant c.in_ok-v.ensures c.in_ok-w.ensures
