use Rattle.std.proofs.Common.{◌+◌, ◌*◌, ◌<◌, length}
use Rattle.sheet.specs.Progress.{progress}
use Rattle.sheet.specs.Reads.{ReadsExpr}
use Rattle.sheet.proofs.reading.Reading.+expression_term.Given as goal

abbrev pub decreases-expression : goal.decreases-expression
decreases-expression l = 2 * length l.words.now + 1

abbrev pub decreases-term : goal.decreases-term
decreases-term l = 2 * length l.words.now

abbrev pub invariant-expression-loop-added : goal.invariant-expression-loop-added
invariant-expression-loop-added l = (length l.rest < length l.fn.words) × ReadsExpr l.depth (progress l.fn.self) l.fn.words l.sum (progress l.self) l.rest

abbrev pub decreases-expression-loop-added : goal.decreases-expression-loop-added
decreases-expression-loop-added l = length l.rest
