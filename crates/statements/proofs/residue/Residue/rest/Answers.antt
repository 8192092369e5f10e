-- The remainder that the machine computes is below 2 ^ 24.
use Rattle.std.proofs.Common.{arith, pow_mono}
use Rattle.std.proofs.lemmas.Nat.{one_shl}
use Rattle.std.proofs.lemmas.Int.{ints}
use Rattle.statements.proofs.residue.Residue.rest.Goals as goal

pub returns-clause-small : goal.returns-clause-small
returns-clause-small c =
    let shl = one_shl c.args.self.k 64 (omega arith) in
    let small = pow_mono c.args.self.fine in
    (omega (arith, ints), omega (arith, ints))
