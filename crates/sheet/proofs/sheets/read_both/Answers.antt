use Rattle.std.proofs.Common.{refl}
use Rattle.std.proofs.lemmas.Result.{err_from_is_err_and}
use Rattle.sheet.proofs.Texts.{chip_long, project_long, chip_stops, project_stops, both_read}
use Rattle.sheet.proofs.sheets.read_both.Goals as goal

pub returns-then-texts-gt-LONGEST : goal.returns-then-texts-gt-LONGEST
returns-then-texts-gt-LONGEST c = rw c.too_long.ensures (chip_long _ _ c.if-texts-gt-LONGEST.true)

pub returns-then-texts-gt-LONGEST-2 : goal.returns-then-texts-gt-LONGEST-2
returns-then-texts-gt-LONGEST-2 c =
    rw c.too_long-then-texts-gt-LONGEST-2.ensures (project_long _ _ c.if-texts-gt-LONGEST.false c.if-texts-gt-LONGEST-2.true)

pub returns-in_err-read_text : goal.returns-in_err-read_text
returns-in_err-read_text c =
    let r = err_from_is_err_and c.from_residual.result c.from_residual.ensures.1 in
    rw (r.1, r.2) (chip_stops _ _ c.if-texts-gt-LONGEST.false c.if-texts-gt-LONGEST-2.false _ refl c.new.ensures c.in_err-read_text.field-0.0 _ c.in_err-read_text.ensures)

pub returns-in_err-read_text-2 : goal.returns-in_err-read_text-2
returns-in_err-read_text-2 c =
    let r = err_from_is_err_and c.from_residual-in_err-read_text-2.result c.from_residual-in_err-read_text-2.ensures.1 in
    rw (r.1, r.2) (project_stops _ _ c.if-texts-gt-LONGEST.false c.if-texts-gt-LONGEST-2.false _ refl c.new.ensures c.in_ok-read_text.ensures c.in_err-read_text-2.field-0.0 _ c.in_err-read_text-2.ensures)

pub returns : goal.returns
returns c = both_read _ _ c.if-texts-gt-LONGEST.false c.if-texts-gt-LONGEST-2.false _ refl c.new.ensures c.in_ok-read_text.ensures _ c.in_ok-read_text-2.ensures
