-- A number is aligned where what it has beyond r leaves nothing.
use Rattle.std.proofs.Common.{arith}
use Rattle.std.proofs.lemmas.Int.{ints, to_z-of_z}
use Rattle.statements.proofs.Aligneds.{aligned_test}
use Rattle.statements.proofs.residue.Residue.allows.Goals as goal

pub returns-then-is_number : goal.returns-then-is_number
returns-then-is_number c = grind (arith, ints, to_z-of_z, aligned_test)
