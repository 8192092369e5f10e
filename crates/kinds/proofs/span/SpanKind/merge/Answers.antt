-- Two spans merge to the cut of their inner ends.
use Rattle.std.proofs.Common.{sym, ◌∙◌, ap₂, arith}
use Rattle.std.proofs.lemmas.Int.{ints, clamps}
use Rattle.kinds.specs.Span.{cut, span_of, span_meet}
use Rattle.kinds.proofs.span.SpanKind.merge.Goals as goal

pub returns : goal.returns
returns c =
    c.cut.ensures ∙ ap₂ cut (omega (arith, ints, clamps)) (omega (arith, ints, clamps)) ∙ sym (ap₂ (λ o r. span_meet (span_of o) (span_of r)) c.in-Some-Some.is-0 c.in-Some-Some.is-1)
