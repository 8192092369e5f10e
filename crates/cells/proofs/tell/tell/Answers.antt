use Rattle.std.proofs.Common.{◌≡◌, not, ap, ◌∙◌}
use Rattle.cells.specs.Meaning.{cell_of, table_of}
use Rattle.cells.proofs.Tables.{read_cell}
use Rattle.cells.proofs.Told.{tell_there, tell_changed}
use Rattle.cells.proofs.tell.tell.Goals as goal

pub returns : goal.returns
returns g c =
    let m = g.K.Kind.model in
    let xs = c.args.table.now in
    let x = c.args.x in
    let old = c.index-table-x.result in
    let new = c.told-new.result in
    let was : cell_of old ≡ table_of m xs x = read_cell m xs x old c.if-x-table.false c.index-table-x.is in
    record {
      table = tell_there m xs x c.args.g c.args.s old new c.if-x-table.false was c.told-new.ensures;
      change = ap not c.same.ensures ∙ tell_changed m xs x c.args.g c.args.s old new c.if-x-table.false was;
    }
