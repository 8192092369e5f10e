use Rattle.telling.proofs.PlacementCover.{loses_none}
use Rattle.telling.proofs.promises.loses_none.Goals as goal

pub returns : goal.returns
returns g c = loses_none g.K.Kind.model g.met.K.Kind.lawful
