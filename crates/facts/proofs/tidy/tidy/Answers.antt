-- Tidy is the merge with the Between of the ends, and has its laws.
use Rattle.std.proofs.Common.{arith}
use Rattle.std.proofs.lemmas.Int.{to_z-of_z}
use Rattle.facts.specs.Derived.{tidy}
use Rattle.facts.proofs.TidyLaws.{tidy_laws}
use Rattle.facts.proofs.tidy.tidy.Goals as goal

pub returns-clause-is : goal.returns-clause-is
unfolding tidy
returns-clause-is g c = grind (arith, to_z-of_z)

pub returns-clause-laws : goal.returns-clause-laws
returns-clause-laws g c = tidy_laws g.K.Kind.model g.met.K.Kind.lawful
