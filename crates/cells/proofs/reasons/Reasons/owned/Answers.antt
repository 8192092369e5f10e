use Rattle.cells.proofs.Told.{owned_none}
use Rattle.cells.proofs.reasons.Reasons.owned.Goals as goal

pub returns-in-None : goal.returns-in-None
returns-in-None c = owned_none c.args.owner c.in-None.is c.none.ensures
