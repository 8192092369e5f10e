-- A Between's fact is its cut, and allows what the Between does.
use Rattle.std.proofs.Common.{sym, ◌∙◌, ap, ap₂, arith}
use Rattle.std.proofs.lemmas.Int.{ints}
use Rattle.kinds.specs.Span.{cut, span_allows}
use Rattle.kinds.specs.SpanLaws.{span_stated-between, span_exact}
use Rattle.kinds.proofs.span.SpanExactKind.exactly.Goals as goal

pub returns-clause-is : goal.returns-clause-is
returns-clause-is c = c.cut.ensures ∙ ap₂ cut (omega (arith, ints)) (omega (arith, ints)) ∙ sym (span_stated-between c.args.lo c.args.hi)

pub returns-clause-allows : goal.returns-clause-allows
returns-clause-allows c =
    let is = c.cut.ensures ∙ ap₂ cut (omega (arith, ints)) (omega (arith, ints)) ∙ sym (span_stated-between c.args.lo c.args.hi) in
    λ n. ap (λ f. span_allows f n) is ∙ span_exact c.args.lo c.args.hi n
