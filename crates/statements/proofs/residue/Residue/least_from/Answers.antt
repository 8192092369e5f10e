-- The least number of an Aligned.
use Rattle.std.proofs.Common.{◌+ℤ◌, arith, pow_mono, w64, to_z, of_z}
use Rattle.std.proofs.lemmas.Int.{ints, clamps}
use Rattle.statements.proofs.Aligneds.{aligned_first}
use Rattle.statements.proofs.residue.Residue.least_from.Goals as goal

pub returns : goal.returns
returns c =
    let a = c.args.self in
    let small = pow_mono a.fine in
    let v = to_z w64 (of_z w64 (to_z w64 (of_z w64 c.raised-from.result) +ℤ to_z w64 (of_z w64 c.rest.result))) in
    aligned_first a c.args.n c.raised-from.result _ c.rest.result v (omega (arith, ints, clamps)) (omega (arith, ints, clamps)) c.rest.ensures.is (omega (arith, ints, clamps)) _ c.then_some.ensures
