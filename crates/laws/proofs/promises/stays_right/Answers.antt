use Rattle.laws.proofs.Histories.{stays_right}
use Rattle.laws.proofs.promises.stays_right.Goals as goal

pub returns : goal.returns
returns g c = stays_right g.K.Kind.model g.met.K.Kind.lawful
