-- What each turn of the reader keeps: the words so far, and the rest still to be read from a column on.
use Rattle.std.proofs.Common.{length, vec_items}
use Rattle.words.proofs.Scan.{Sofar}
use Rattle.words.proofs.words.Given as goal

abbrev pub invariant-loop-rest : goal.invariant-loop-rest
invariant-loop-rest l = Sofar l.line (vec_items l.out) l.column l.rest

abbrev pub decreases-loop-rest : goal.decreases-loop-rest
decreases-loop-rest l = length l.rest
