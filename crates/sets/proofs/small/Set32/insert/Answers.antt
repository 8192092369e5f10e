-- Below 32 a bit is set.
use Rattle.sets.specs.Small.{holds}
use Rattle.sets.proofs.Joining.{joined_below}
use Rattle.sets.proofs.Words.{insert_bits}
use Rattle.sets.proofs.small.Set32.insert.Goals as goal

pub returns : goal.returns
returns c = joined_below 32 c.args.n (holds c.args.self) _ c.if-n-ge32.false (insert_bits 32 c.args.self.bits c.args.n c.if-n-ge32.false)
