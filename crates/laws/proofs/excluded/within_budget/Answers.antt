use Rattle.laws.proofs.Exclusions.{within_budget}
use Rattle.laws.proofs.excluded.within_budget.Goals as goal

pub returns : goal.returns
returns g c = within_budget g.K.Kind.model
