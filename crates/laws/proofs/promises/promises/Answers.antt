use Rattle.laws.proofs.Histories.{promises}
use Rattle.laws.proofs.promises.promises.Goals as goal

pub returns : goal.returns
returns g c = promises g.K.Kind.model g.met.K.Kind.lawful
