use Rattle.forms.specs.Tells.{saying_reads}
use Rattle.cells.proofs.Readings.{reasons_two, two_read}
use Rattle.cells.proofs.reads.Reading.saying_reasons.Goals as goal

pub returns-in-Stated : goal.returns-in-Stated
returns-in-Stated g c = rw c.in-Stated.is c.none.ensures

pub returns-in-Plus : goal.returns-in-Plus
returns-in-Plus g c =
    let r = c.args.self.now in
    reasons_two g.K.Kind.model r.table.now (saying_reads r.tell.saying) c.in-Plus.x c.in-Plus.y _ _ (two_read c.in-Plus.is) r.fits.saying.0 c.union.ensures
