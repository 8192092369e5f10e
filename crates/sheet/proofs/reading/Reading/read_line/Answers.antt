use Rattle.std.proofs.Common.{map, length, Ok, sym, ap, ◌∙◌, arith}
use Rattle.std.proofs.lemmas.Result.{err_from_is_err_and}
use Rattle.words.specs.Words.{spot}
use Rattle.sheet.specs.Progress.{progress}
use Rattle.sheet.proofs.Texts.{words-near, unread_tells, stop_read, line_ended}
use Rattle.sheet.proofs.reading.Reading.read_line.Goals as goal

pub returns-in_err-found : goal.returns-in_err-found
returns-in_err-found c =
    let r = err_from_is_err_and c.from_residual.result c.from_residual.ensures.1 in
    rw (r.1, r.2) (unread_tells _ _ _ _ _ c.in_err-found.ensures)

pub line-requires-clause-near : goal.line-requires-clause-near
line-requires-clause-near c =
    words-near c.args.bytes.now c.as_slice.result.now (omega (arith, c.requires.inside)) (c.in_ok-found.ensures ∙ ap (λ v. Ok (map spot v)) (sym c.as_slice.ensures.value))

pub returns-in-Ok : goal.returns-in-Ok
returns-in-Ok c =
    line_ended c.ended.result _ (progress c.args.self.now) _ _ c.as_slice.result.now c.in-Ok.field-0 c.requires.fresh (c.in_ok-found.ensures ∙ ap (λ v. Ok (map spot v)) (sym c.as_slice.ensures.value)) c.in-Ok.ensures c.ended.ensures

pub returns : goal.returns
returns c =
    rw (c.trouble.ensures (length c.args.bytes.now) (omega (arith, c.requires.inside))) (stop_read c.in-Err.stop c.args.start (progress c.args.self.now) (progress c.line.new.self) c.args.bytes.now c.as_slice.result.now (c.in_ok-found.ensures ∙ ap (λ v. Ok (map spot v)) (sym c.as_slice.ensures.value)) c.in-Err.ensures)
