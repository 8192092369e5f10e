-- The greatest power of two that the word reaches is at its highest one.
use Rattle.sets.proofs.Words.{log_greatest}
use Rattle.sets.proofs.small.Set32.highest.Goals as goal

pub returns : goal.returns
returns c = let log = c.checked_ilog2.ensures in log_greatest c.args.self.bits c.checked_ilog2.result log.none log.power_le log.next_power_gt
