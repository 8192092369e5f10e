-- The least number of a span from n up.
use Rattle.std.proofs.Common.{sym, subst, arith, w64, to_z, of_z}
use Rattle.std.proofs.lemmas.Int.{ints, clamps}
use Rattle.statements.specs.Search.{LeastFrom}
use Rattle.statements.proofs.Betweens.{inside_first}
use Rattle.kinds.specs.Span.{span_of, span_allows}
use Rattle.kinds.proofs.span.SpanKind.next.Goals as goal

pub returns : goal.returns
returns c =
    let e = c.in_ok-e.e in
    subst (λ o. LeastFrom (span_allows (span_of o)) c.args.n c.then_some.result) (sym c.in_ok-e.was)
    (inside_first e.lo e.hi c.args.n (to_z w64 (of_z w64 c.max-v.result)) (to_z w64 (of_z w64 e.hi)) _ c.then_some.ensures (omega (arith, ints, clamps)) (omega (arith, ints)))
