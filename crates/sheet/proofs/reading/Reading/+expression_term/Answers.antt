use Rattle.std.proofs.Common.{rules, ap, ◌∙◌, arith}
use Rattle.std.proofs.lemmas.Result.{err_from_is_err_and}
use Rattle.words.specs.Words.{symbol, meant}
use Rattle.sheet.proofs.Steps.{first-is, rest-shorter, shorter, name_read, number_read, grouped, one_term, sum_halts, summed}
use Rattle.sheet.proofs.reading.Reading.+expression_term.Goals as goal

pub expression-loop-added-init : goal.expression-loop-added-init
expression-loop-added-init t c = let h = c.in_ok-sum.ensures in (h.0, one_term h.1)

pub expression-returns-in_err-cell : goal.expression-returns-in_err-cell
expression-returns-in_err-cell t c =
    let r = err_from_is_err_and c.from_residual-in_err-cell.result c.from_residual-in_err-cell.ensures.1 in
    rw (r.1, r.2) (sum_halts c.loop-added.invariant.1 c.in-Some.ensures c.in_err-cell.ensures)

pub expression-loop-added-preserved : goal.expression-loop-added-preserved
expression-loop-added-preserved t c =
    let h = c.in_ok-cell.ensures in
    (omega (arith, h.0, shorter c.in-Some.ensures, c.loop-added.invariant.0), summed c.loop-added.invariant.1 c.in-Some.ensures h.1 c.in_ok-sum-2.ensures)

pub term-returns-in-Name : goal.term-returns-in-Name
term-returns-in-Name t c =
    (search rules, name_read _ _ _ _ _ _ _ _ (first-is _ _ _ c.in-len1-up.len_at_least (ap meant c.in-Name.is)) c.cell_named.ensures.cell c.cell_named.ensures.after)

pub term-returns-in_ok-add_number-in-Number : goal.term-returns-in_ok-add_number-in-Number
term-returns-in_ok-add_number-in-Number t c =
    (search rules, number_read _ _ _ _ _ _ _ _ (first-is _ _ _ c.in-len1-up.len_at_least (ap meant c.in-Number.is)) c.in_ok-add_number-in-Number.ensures)

pub term-returns-in_ok-rest-in-Symbol-Open : goal.term-returns-in_ok-rest-in-Symbol-Open
term-returns-in_ok-rest-in-Symbol-Open t c =
    let h = c.in_ok-cell-in-Symbol-Open.ensures in
    let shut = c.in_ok-rest-in-Symbol-Open.ensures in
    let opened = rw c.in-Symbol-Open.is at c.in-Symbol-Open.field-0-is in (
      omega (arith, h.0, shorter shut, rest-shorter _ c.in-len1-up.len_at_least),
      grouped _ (first-is _ _ _ c.in-len1-up.len_at_least (ap meant c.in-Symbol-Open.is ∙ ap symbol opened)) c.if-depth-ge-DEEPEST.false h.2 shut,
    )
