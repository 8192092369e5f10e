-- The test that the closure makes is the one in question.
use Rattle.std.proofs.Common.{refl, rules}
use Rattle.sets.specs.Small.{holds}
use Rattle.calls.specs.Calls.{standing}
use Rattle.wakes.proofs.index.Index.wake_standing.Goals as goal

pub returns : goal.returns
returns g c = c.wake_passing.ensures (standing (holds c.args.force)) (refl, λ k b says. search rules)
