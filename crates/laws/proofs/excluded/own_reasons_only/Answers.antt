use Rattle.laws.proofs.Exclusions.{own_reasons-only}
use Rattle.laws.proofs.excluded.own_reasons_only.Goals as goal

pub returns : goal.returns
returns g c = own_reasons-only g.K.Kind.model g.met.K.Kind.lawful
