use Rattle.laws.proofs.Exclusions.{only_kept}
use Rattle.laws.proofs.excluded.only_kept.Goals as goal

pub returns : goal.returns
returns g c = only_kept g.row.K.Denot
