-- The cut has the clamped ends, or is empty.
use Rattle.std.proofs.Common.{arith}
use Rattle.std.proofs.lemmas.Int.{ints, clamps}
use Rattle.kinds.specs.SpanLaws.{cut_is, cut_none}
use Rattle.kinds.proofs.span.Span.cut.Goals as goal

pub returns-then-lo-hi : goal.returns-then-lo-hi
returns-then-lo-hi c = cut_is c.args.lo c.args.hi _ (omega (arith, ints, clamps)) (omega (arith, ints, clamps))

pub returns-else-lo-hi : goal.returns-else-lo-hi
returns-else-lo-hi c = cut_none c.args.lo c.args.hi (omega (arith, ints, clamps))
