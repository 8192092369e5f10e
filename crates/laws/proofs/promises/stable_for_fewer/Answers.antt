use Rattle.laws.proofs.Histories.{stable_for_fewer}
use Rattle.laws.proofs.promises.stable_for_fewer.Goals as goal

pub returns : goal.returns
returns g c = stable_for_fewer g.K.Kind.model
