-- No part is marked exactly when there is no member.
use Rattle.std.proofs.Common.{rules}
use Rattle.sets.proofs.Parts.{marks_tell}
use Rattle.sets.proofs.wide.Set512.is_empty.Goals as goal

pub returns : goal.returns
returns c = let s = c.args.self.now in marks_tell s.used s.parts (search rules) s.marks s.fits c.is_empty.result c.is_empty.ensures
