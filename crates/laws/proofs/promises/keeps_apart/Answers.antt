use Rattle.laws.proofs.Keeping.{keeps_apart}
use Rattle.laws.proofs.promises.keeps_apart.Goals as goal

pub returns : goal.returns
returns c = keeps_apart
