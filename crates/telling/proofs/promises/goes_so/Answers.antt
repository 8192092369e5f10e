use Rattle.telling.proofs.Changes.{goes_so}
use Rattle.telling.proofs.promises.goes_so.Goals as goal

pub returns : goal.returns
returns g c = goes_so g.K.Kind.model g.met.K.Kind.lawful
