-- Being told is a merge, tidied.
use Rattle.std.proofs.Common.{arith}
use Rattle.facts.specs.Derived.{told}
use Rattle.facts.proofs.tidy.told.Goals as goal

pub returns : goal.returns
unfolding told
returns g c = grind arith
