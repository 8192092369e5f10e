use Rattle.sheet.proofs.Bounds.{bound-pushed}
use Rattle.sheet.proofs.reading.Reading.at_most.Goals as goal

pub returns : goal.returns
returns c =
    let right = rw c.in_ok-end.ensures at c.in_ok-right.ensures.2 in
    bound-pushed c.in_ok-left.ensures.2 c.in_ok-rest.ensures right c.push.result _ _ c.push.ensures
