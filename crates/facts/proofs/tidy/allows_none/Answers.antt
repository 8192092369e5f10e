-- A fact allows none where there is no least number from -M up.
use Rattle.std.proofs.Common.{arith}
use Rattle.statements.proofs.Searches.{allows_none_is}
use Rattle.facts.specs.Derived.{none}
use Rattle.facts.proofs.tidy.allows_none.Goals as goal

pub returns : goal.returns
unfolding none
returns g c = let w = g.met.K.Kind.lawful.allows_within c.args.f in grind (arith, allows_none_is)
