use Rattle.std.proofs.Common.{arith}
use Rattle.std.proofs.lemmas.Int.{ints}
use Rattle.grammar.specs.Parse.{after_in}
use Rattle.sheet.proofs.Shapes.{pushed, between_made, within_read}
use Rattle.sheet.proofs.reading.Reading.within.Goals as goal

pub returns : goal.returns
returns c =
    let to = c.in_ok-rest.ensures in
    pushed after_in c.push.result _ _ _ _ _ _ _ c.push.ensures
    (λ o k. (_, (within_read _ _ _ _ _ _ _ c.in_ok-lo.ensures to.1.0 to.1.1 c.in_ok-hi.ensures c.in_ok-end.ensures o _ k, (c.cell_named-cell.ensures.after, between_made _ _ c.cell_named-cell.ensures.cell (omega (arith, ints)) (omega (arith, ints))))))
