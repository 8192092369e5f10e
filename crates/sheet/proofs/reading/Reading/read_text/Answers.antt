use Rattle.std.proofs.Common.{rules, tests, ap, ◌∙◌, arith}
use Rattle.std.specs.Iterator.Adapters.{enumerate_count, enumerate_source}
use Rattle.sheet.proofs.Texts.{lines_come, upto_none, upto_next, upto_more, upto_stop, upto_all}
use Rattle.sheet.proofs.reading.Reading.read_text.Goals as goal

pub loop-i-init : goal.loop-i-init
loop-i-init c =
    let same = c.into_iter-i-iterator.ensures.into_iter_gives in
    let split = c.split.ensures in
    upto_none _ _ _ c.args.text.now _ _ (lines_come _ _ _ _ split.rest split.done split.closure (ap enumerate_source same ∙ c.enumerate-i-items.ensures.source) (λ x b q k. search (rules, tests)))
    (ap enumerate_count same ∙ c.enumerate-i-items.ensures.count) c.requires.fresh

pub read_line-requires-clause-inside : goal.read_line-requires-clause-inside
read_line-requires-clause-inside c =
    let n = upto_next _ c.loop-i.invariant c.in-Some.i c.in-Some.bytes c.next.new.self c.in-Some.ensures.steps in
    omega (arith, n.line_at.inside, c.requires.short)

pub overflow_add-offset-in-loop-i : goal.overflow_add-offset-in-loop-i
overflow_add-offset-in-loop-i c =
    let n = upto_next _ c.loop-i.invariant c.in-Some.i c.in-Some.bytes c.next.new.self c.in-Some.ensures.steps in
    omega (arith, n.line_at.inside, c.requires.short)

pub returns-in-Err : goal.returns-in-Err
returns-in-Err c =
    let n = upto_next _ c.loop-i.invariant c.in-Some.i c.in-Some.bytes c.next.new.self c.in-Some.ensures.steps in
    rw c.at.ensures (upto_stop _ n c.in-Err.trouble _ _ c.in-Some.ensures.steps.1 c.in-Err.ensures)

pub loop-i-preserved : goal.loop-i-preserved
loop-i-preserved c =
    let n = upto_next _ c.loop-i.invariant c.in-Some.i c.in-Some.bytes c.next.new.self c.in-Some.ensures.steps in
    upto_more _ n _ _ _ c.in-Some.ensures.steps.2 c.loop-i.invariant.small c.loop-i.invariant.fine c.in_default.ensures

pub returns : goal.returns
returns c = upto_all _ _ _ c.loop-i.invariant c.in-None.ensures.steps
