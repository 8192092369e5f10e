-- The greatest number of a Between.
use Rattle.std.proofs.Common.{arith, w64, to_z, of_z}
use Rattle.std.proofs.lemmas.Int.{ints, clamps}
use Rattle.statements.proofs.Betweens.{inside_last}
use Rattle.statements.proofs.between.Between.greatest_to.Goals as goal

pub returns : goal.returns
returns c = inside_last _ _ _ (to_z w64 (of_z w64 c.min-v.result)) (to_z w64 (of_z w64 c.raised.result)) _ c.then_some.ensures (omega (arith, ints, clamps)) (omega (arith, ints, clamps))
