use Rattle.std.proofs.Common.{length, ap, ◌∙◌, ap₂}
use Rattle.std.proofs.lemmas.Bool.{lt-ltb}
use Rattle.plan.specs.Placements.{owned_by}
use Rattle.telling.specs.Reasons.{together}
use Rattle.cells.specs.Meaning.{tags_of, table_of}
use Rattle.cells.proofs.Told.{make_made, make_not}
use Rattle.cells.proofs.tell.make.Goals as goal

pub returns-then-not-is_made-clause-table : goal.returns-then-not-is_made-clause-table
returns-then-not-is_made-clause-table g c =
    let m = g.K.Kind.model in
    make_not m (owned_by c.args.owner) c.args.t (table_of m c.args.table.now) c.if-not-is_made.ensures

pub returns-clause-table : goal.returns-clause-table
returns-clause-table g c =
    let m = g.K.Kind.model in
    let t = c.args.t in
    make_made m (owned_by c.args.owner) t (table_of m c.args.table.now) c.state-g.result (tags_of c.union-s.result)
    (lt-ltb t.target (length c.args.table.now) c.requires.fit.target) c.tell.ensures.table c.if-not-is_made.ensures
    (c.state-g.ensures ∙ ap m.stated c.said.ensures)
    (c.union-s.ensures ∙ ap₂ together c.owned.ensures c.reasons.ensures)
