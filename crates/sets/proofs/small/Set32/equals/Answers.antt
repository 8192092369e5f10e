-- Equal words are the same members.
use Rattle.std.proofs.Common.{rules}
use Rattle.sets.proofs.Words.{same_decides}
use Rattle.sets.proofs.small.Set32.equals.Goals as goal

pub returns-clause-members : goal.returns-clause-members
returns-clause-members c = rw c.eq.ensures (same_decides 32 c.args.self.bits c.args.other.bits (search rules) (search rules))
