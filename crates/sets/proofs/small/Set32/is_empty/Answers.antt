-- Only the word 0 has no member.
use Rattle.std.proofs.Common.{refl, rules}
use Rattle.sets.proofs.Words.{none_or_some}
use Rattle.sets.proofs.small.Set32.is_empty.Goals as goal

pub returns : goal.returns
returns c = none_or_some 32 c.args.self.bits (search rules) _ refl
