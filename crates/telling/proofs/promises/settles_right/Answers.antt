use Rattle.telling.proofs.Settles.{settles_right}
use Rattle.telling.proofs.promises.settles_right.Goals as goal

pub returns : goal.returns
returns g c = settles_right g.K.Kind.model g.met.K.Kind.lawful
