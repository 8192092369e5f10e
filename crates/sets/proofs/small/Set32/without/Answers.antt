-- The bits that the other word lacks are the members that the other set lacks.
use Rattle.std.proofs.Common.{rules}
use Rattle.sets.proofs.Words.{without_bits}
use Rattle.sets.proofs.small.Set32.without.Goals as goal

pub returns : goal.returns
returns c = without_bits 32 c.args.self.bits c.args.other.bits (search rules) (search rules)
