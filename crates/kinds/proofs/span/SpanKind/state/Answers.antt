-- A statement reaches a span as the Between of its lowest and highest.
use Rattle.std.proofs.Common.{◌∙◌, ap₂, arith}
use Rattle.std.proofs.lemmas.Int.{ints}
use Rattle.kinds.specs.Span.{cut}
use Rattle.kinds.proofs.span.SpanKind.state.Goals as goal

pub returns : goal.returns
returns c =
    let lo = c.lowest.ensures.is in
    let hi = c.highest.ensures.is in
    c.cut.ensures ∙ ap₂ cut (omega (arith, ints)) (omega (arith, ints))
