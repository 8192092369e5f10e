use Rattle.cells.specs.Meaning.{cell_of, tags_of}
use Rattle.cells.proofs.Told.{told-kept, told_fresh, told_joined}
use Rattle.cells.proofs.cell.Cell.told.Goals as goal

pub returns-then-same : goal.returns-then-same
returns-then-same g c =
    told-kept g.K.Kind.model (cell_of c.args.self) c.args.g (tags_of c.args.s) c.told-h.result c.told-h.ensures c.if-same.ensures

pub returns-then-same-2 : goal.returns-then-same-2
returns-then-same-2 g c =
    told_fresh g.K.Kind.model (cell_of c.args.self) c.args.g (tags_of c.args.s) c.told-h.result c.told-h.ensures c.tidy.ensures.is c.if-same.ensures c.if-same-2.ensures

pub returns-else-same-2 : goal.returns-else-same-2
returns-else-same-2 g c =
    told_joined g.K.Kind.model (cell_of c.args.self) c.args.g (tags_of c.args.s) c.told-h.result c.told-h.ensures c.tidy.ensures.is c.if-same.ensures c.if-same-2.ensures c.union.ensures
