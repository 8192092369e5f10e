-- Right above the trailing zeros stands the least member.
use Rattle.std.proofs.Common.{rules}
use Rattle.sets.proofs.Words.{trailing_least}
use Rattle.sets.proofs.small.Set32.lowest.Goals as goal

pub returns : goal.returns
returns c = rw c.then_some.ensures (trailing_least 32 c.args.self.bits (search rules) c.is_empty.result c.is_empty.ensures)
