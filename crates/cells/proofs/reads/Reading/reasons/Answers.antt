use Rattle.std.proofs.Common.{◌∷◌, length, ap, subst}
use Rattle.forms.specs.Tells.{condition_reads, saying_reads}
use Rattle.cells.specs.Meaning.{Inside}
use Rattle.cells.proofs.Readings.{reasons_beside}
use Rattle.cells.proofs.reads.Reading.reasons.Goals as goal

pub returns-in-Above : goal.returns-in-Above
returns-in-Above g c =
    let m = g.K.Kind.model in
    let r = c.args.self.now in
    let cells = r.table.now in
    let here = subst (Inside (length cells)) (ap condition_reads c.in-Above.is) r.fits.condition.0 in
    let said = saying_reads r.tell.saying in
    rw c.in-Above.is
    (reasons_beside m cells c.in-Above.a (c.in-Above.b ∷ said) _ here.0 (reasons_beside m cells c.in-Above.b said _ here.1.0 c.saying_reasons-said.ensures c.union-rest.ensures) c.union.ensures)
