use Rattle.std.proofs.Common.{sym}
use Rattle.cells.proofs.Firing.{fired_deads, fired-tells}
use Rattle.cells.proofs.fire.fire.Goals as goal

pub returns-then-has_conflict : goal.returns-then-has_conflict
returns-then-has_conflict g c =
    fired_deads g.K.Kind.model g.met.K.Kind.lawful c.args.k c.args.table.now c.make_deads.new.table c.make_deads.result (sym c.if-not-can_fire.ensures)
    c.if-has_conflict.ensures c.make_deads.ensures.table c.make_deads.ensures.cells

pub returns-else-has_conflict : goal.returns-else-has_conflict
returns-else-has_conflict g c =
    fired-tells g.K.Kind.model g.met.K.Kind.lawful c.args.k c.args.table.now c.make_tells.new.table c.make_tells.result (sym c.if-not-can_fire.ensures)
    c.if-has_conflict.ensures c.make_tells.ensures.table c.make_tells.ensures.cells
