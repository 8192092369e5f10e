-- The word 0 has no member.
use Rattle.sets.proofs.Digits.{bits_zero}
use Rattle.sets.proofs.small.Set32.none.Goals as goal

pub returns : goal.returns
returns c = bits_zero
