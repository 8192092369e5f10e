-- The words joined bit by bit have the members of either.
use Rattle.sets.proofs.Digits.{bits_or}
use Rattle.sets.proofs.small.Set32.union.Goals as goal

pub returns : goal.returns
returns c = bits_or c.args.self.bits c.args.other.bits
