-- The greatest number from M down is the highest.
use Rattle.std.proofs.Common.{arith}
use Rattle.std.proofs.lemmas.Int.{to_z-of_z}
use Rattle.statements.proofs.Searches.{highest_is}
use Rattle.facts.specs.Derived.{high}
use Rattle.facts.proofs.tidy.highest.Goals as goal

pub returns-clause-is : goal.returns-clause-is
unfolding high
returns-clause-is g c = let w = g.met.K.Kind.lawful.allows_within c.args.f in grind (arith, to_z-of_z, highest_is)
