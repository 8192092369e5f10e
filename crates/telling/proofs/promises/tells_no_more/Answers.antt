use Rattle.telling.proofs.StableCover.{tells_no_more}
use Rattle.telling.proofs.promises.tells_no_more.Goals as goal

pub returns : goal.returns
returns g c = tells_no_more g.K.Kind.model g.met.K.Kind.lawful
