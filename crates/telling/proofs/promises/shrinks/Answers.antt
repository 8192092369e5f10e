use Rattle.telling.proofs.Sizes.{shrinks}
use Rattle.telling.proofs.promises.shrinks.Goals as goal

pub returns : goal.returns
returns g c = shrinks g.K.Kind.model g.met.K.Kind.lawful
