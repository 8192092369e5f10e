-- The least number from -M up is the lowest.
use Rattle.std.proofs.Common.{arith}
use Rattle.std.proofs.lemmas.Int.{to_z-of_z}
use Rattle.statements.proofs.Searches.{lowest_is}
use Rattle.facts.specs.Derived.{low}
use Rattle.facts.proofs.tidy.lowest.Goals as goal

pub returns-clause-is : goal.returns-clause-is
unfolding low
returns-clause-is g c = let w = g.met.K.Kind.lawful.allows_within c.args.f in grind (arith, to_z-of_z, lowest_is)
