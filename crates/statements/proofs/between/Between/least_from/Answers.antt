-- The least number of a Between.
use Rattle.std.proofs.Common.{arith, w64, to_z, of_z}
use Rattle.std.proofs.lemmas.Int.{ints, clamps}
use Rattle.statements.proofs.Betweens.{inside_first}
use Rattle.statements.proofs.between.Between.least_from.Goals as goal

pub returns : goal.returns
returns c = inside_first _ _ _ (to_z w64 (of_z w64 c.max-v.result)) (to_z w64 (of_z w64 c.lowered.result)) _ c.then_some.ensures (omega (arith, ints, clamps)) (omega (arith, ints, clamps))
