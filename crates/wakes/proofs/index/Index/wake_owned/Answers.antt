-- The test that the closure makes is the one in question.
use Rattle.std.proofs.Common.{refl, rules}
use Rattle.calls.specs.Calls.{belongs}
use Rattle.wakes.proofs.index.Index.wake_owned.Goals as goal

pub returns : goal.returns
returns g c = c.wake_passing.ensures (belongs c.args.premise) (refl, λ k b says. search rules)
