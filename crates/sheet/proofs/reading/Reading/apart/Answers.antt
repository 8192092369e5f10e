use Rattle.std.proofs.lemmas.Result.{err_from_is_err_and}
use Rattle.grammar.specs.Parse.{after_apart}
use Rattle.sheet.specs.Next.{tree_name}
use Rattle.sheet.proofs.Shapes.{pushed, names_two, apart_made, apart-read, apart-long}
use Rattle.sheet.proofs.reading.Reading.apart.Goals as goal

pub returns-in_err-end : goal.returns-in_err-end
returns-in_err-end c =
    let r = err_from_is_err_and c.from_residual-in_err-end.result c.from_residual-in_err-end.ensures.1 in
    rw (r.1, r.2) (λ o k. apart-long _ _ _ _ _ c.in_ok-other.other _ c.in_ok-d.ensures c.in_ok-other.ensures c.in_ok-e.ensures o _ k _ c.in_err-end.ensures)

pub returns : goal.returns
returns c =
    let a = tree_name c.args.named in
    let b = tree_name c.in_ok-other.other in
    pushed after_apart c.push.result _ _ _ _ _ _ _ c.push.ensures
    (λ o k. (
      _,
      (
        apart-read _ _ _ _ _ c.in_ok-other.other _ c.in_ok-d.ensures c.in_ok-other.ensures c.in_ok-e.ensures o a k c.in_ok-end.ensures,
        (names_two a b _ _ _ c.cell_named-a.ensures.after c.cell_named-b.ensures.after, apart_made _ a b _ _ _ _ c.cell_named-a.ensures.after c.cell_named-a.ensures.cell c.cell_named-b.ensures.cell),
      ),
    ))
