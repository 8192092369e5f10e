use Rattle.laws.proofs.Histories.{promises}
use Rattle.laws.proofs.promises.conflicts_right.Goals as goal

pub returns : goal.returns
returns g c = λ N ok es s h. ((promises g.K.Kind.model g.met.K.Kind.lawful).promised N ok es s h).conflicts_right
