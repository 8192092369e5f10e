-- A set adds nothing to another exactly when the other has each of its members.
use Rattle.std.proofs.Common.{rules}
use Rattle.sets.proofs.Words.{within_decides, within_test}
use Rattle.sets.proofs.small.Set32.is_within.Goals as goal

pub returns : goal.returns
returns c =
    let a = c.args.self.bits in
    let b = c.args.other.bits in
    record { within = within_decides 32 a b (search rules) (search rules); test = within_test 32 a b (search rules) (search rules) }
