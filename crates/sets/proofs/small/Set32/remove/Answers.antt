-- Below 32 a bit is cleared; from 32 on there is none to clear.
use Rattle.std.proofs.Common.{rules}
use Rattle.sets.specs.Small.{holds}
use Rattle.sets.proofs.Digits.{bits_above}
use Rattle.sets.proofs.Joining.{parted_absent}
use Rattle.sets.proofs.Words.{remove_bits}
use Rattle.sets.proofs.small.Set32.remove.Goals as goal

pub returns-then-n-ge32 : goal.returns-then-n-ge32
returns-then-n-ge32 c = parted_absent c.args.n (holds c.args.self) (bits_above 32 c.args.self.bits c.args.n (search rules) c.if-n-ge32.true)

pub returns : goal.returns
returns c = remove_bits 32 c.args.self.bits c.args.n (search rules) c.if-n-ge32.false
