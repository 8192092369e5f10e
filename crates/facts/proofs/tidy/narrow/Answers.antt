-- The facts of the slice are told one after the other, and the changed ones counted.
use Rattle.std.proofs.Common.{arith}
use Rattle.std.proofs.lemmas.Grind.{common_steps}
use Rattle.std.proofs.lemmas.List.Edits.{map_over_more}
use Rattle.facts.specs.Derived.{changes}
use Rattle.facts.proofs.Narrows.{sizes_fall}
use Rattle.facts.proofs.tidy.narrow.Goals as goal

pub loop-f-preserved : goal.loop-f-preserved
unfolding changes
loop-f-preserved g c = record {
  facts = grind (arith, common_steps, map_over_more);
  count = grind (arith, common_steps);
}

pub returns-clause-falls : goal.returns-clause-falls
returns-clause-falls g c = grind (arith, common_steps, sizes_fall)
