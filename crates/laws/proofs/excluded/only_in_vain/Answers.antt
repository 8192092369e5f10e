use Rattle.laws.proofs.Exclusions.{only_in_vain}
use Rattle.laws.proofs.excluded.only_in_vain.Goals as goal

pub returns : goal.returns
returns g c = only_in_vain g.K.Kind.model g.met.K.Kind.lawful
