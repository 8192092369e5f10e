-- Each turn of the reader takes a gap or a word off the line, or ends at its fault.
use Rattle.std.proofs.Common.{refl, arith}
use Rattle.words.proofs.Scan.{fits, word-step, bad-step, end_step, part-shorter}
use Rattle.words.proofs.words.Goals as goal

pub slice_bounds-rest-count : goal.slice_bounds-rest-count
slice_bounds-rest-count c =
    (fits _ _ c.in-len1-up.len_at_least c.in-Word.ensures).1

pub slice_bounds-rest-start : goal.slice_bounds-rest-start
slice_bounds-rest-start c =
    (fits _ _ c.in-len1-up.len_at_least c.in-Word.ensures).1

pub overflow_add-column-in-Word : goal.overflow_add-column-in-Word
overflow_add-column-in-Word c =
    omega (arith, fits _ _ c.in-len1-up.len_at_least c.in-Word.ensures, c.loop-rest.invariant.size)

pub loop-rest-smaller : goal.loop-rest-smaller
loop-rest-smaller c =
    let inside = fits _ _ c.in-len1-up.len_at_least c.in-Word.ensures in
    part-shorter c.loop-rest.rest.now c.in-Word.len inside.0 inside.1

pub loop-rest-preserved : goal.loop-rest-preserved
loop-rest-preserved c =
    word-step _ _ _ c.in_ok-push-in-Word.ensures.items c.in-len1-up.len_at_least c.in-Word.ensures refl (omega arith) c.loop-rest.invariant

pub overflow_add-result : goal.overflow_add-result
overflow_add-result c =
    omega (arith, fits _ _ c.in-len1-up.len_at_least c.in-Bad.ensures, c.loop-rest.invariant.size)

pub returns-in-Bad : goal.returns-in-Bad
returns-in-Bad c =
    bad-step _ c.in-len1-up.len_at_least c.in-Bad.ensures c.loop-rest.invariant

pub returns : goal.returns
returns c =
    end_step _ (omega arith) c.loop-rest.invariant
