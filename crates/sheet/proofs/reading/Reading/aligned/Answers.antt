use Rattle.grammar.specs.Parse.{after_align}
use Rattle.sheet.specs.Next.{tree_name, tree_number}
use Rattle.sheet.specs.Progress.{progress}
use Rattle.sheet.proofs.Shapes.{pushed, range_noted, range_large, range_rest, align_made, align-named, align-read}
use Rattle.sheet.proofs.reading.Reading.aligned.Goals as goal

pub returns-then-k-gt-FINEST : goal.returns-then-k-gt-FINEST
returns-then-k-gt-FINEST c = λ o k. (
  _,
  (
    align-read _ _ _ _ _ c.in_ok-k.ensures c.in_ok-r.ensures c.in_ok-end.ensures o _ k,
    range_noted _ _ _ _ _ _ _ _ _ c.cell_named-cell.ensures.after c.note.ensures (range_large _ _ c.if-k-gt-FINEST.true),
  ),
)

pub returns-in-Some : goal.returns-in-Some
returns-in-Some c =
    let name = tree_name c.args.named in
    let power = tree_number c.in_ok-k.k in
    let rest = tree_number c.in_ok-r.r in
    pushed after_align c.push.result _ _ _ _ _ _ _ c.push.ensures
    (λ o k. (
      _,
      (
        align-read _ _ _ _ _ c.in_ok-k.ensures c.in_ok-r.ensures c.in_ok-end.ensures o _ k,
        (align-named power rest c.in-Some.residue c.in-Some.ensures name _ _ c.cell_named-cell.ensures.after, align_made power rest c.in-Some.residue c.in-Some.ensures _ name (progress c.args.self.now) c.cell_named-cell.ensures.cell),
      ),
    ))

pub returns-in-None : goal.returns-in-None
returns-in-None c = λ o k. (
  _,
  (
    align-read _ _ _ _ _ c.in_ok-k.ensures c.in_ok-r.ensures c.in_ok-end.ensures o _ k,
    range_noted _ _ _ _ _ _ _ _ _ c.cell_named-cell.ensures.after c.note-in-None.ensures (range_rest _ _ c.if-k-gt-FINEST.false c.in-None.ensures),
  ),
)
