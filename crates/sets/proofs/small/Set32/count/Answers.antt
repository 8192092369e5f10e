-- The ones of the word are as many as the members.
use Rattle.std.proofs.Common.{rules}
use Rattle.sets.proofs.Digits.{ones_count}
use Rattle.sets.proofs.small.Set32.count.Goals as goal

pub returns : goal.returns
returns c = ones_count 32 c.args.self.bits (search rules)
