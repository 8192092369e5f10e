use Rattle.std.proofs.Common.{◌≡◌, true, not, ◌∷◌, rules, ap, ◌∙◌, vec_items}
use Rattle.std.proofs.lemmas.Result.{err_from_is_err_and}
use Rattle.plan.specs.Names.{texts_of}
use Rattle.words.specs.Words.{reserved, meant}
use Rattle.grammar.specs.Tree.{cell, premise, name_spot}
use Rattle.grammar.specs.Parse.{parse_line}
use Rattle.sheet.specs.declared.next.Name.{Name as NameRead}
use Rattle.sheet.specs.Next.{tree_name}
use Rattle.sheet.specs.Reads.{limit, spots}
use Rattle.sheet.specs.Forms.{plain}
use Rattle.sheet.proofs.Lines.{cell_declared, premise_declared, line_plain, line_owned}
use Rattle.sheet.proofs.Steps.{says, first-is, passed}
use Rattle.sheet.proofs.reading.Reading.line.Goals as goal

pub returns-in_err-place-in-Reserved-Cell : goal.returns-in_err-place-in-Reserved-Cell
returns-in_err-place-in-Reserved-Cell c =
    let h = c.in-Reserved-Cell in
    let is = first-is _ _ _ c.in-len1-up.len_at_least (ap meant h.is ∙ ap reserved (rw h.is at h.field-0-is)) in
    let r = err_from_is_err_and c.from_residual.result c.from_residual.ensures.1 in
    rw (r.1, r.2) (says _ (ap (parse_line limit) is) (c.in_err-place-in-Reserved-Cell.ensures (cell _)))

pub returns-in_ok-push-in-Reserved-Cell : goal.returns-in_ok-push-in-Reserved-Cell
returns-in_ok-push-in-Reserved-Cell c =
    let h = c.in-Reserved-Cell in
    let is = first-is _ _ _ c.in-len1-up.len_at_least (ap meant h.is ∙ ap reserved (rw h.is at h.field-0-is)) in
    let p = c.new_place.new.self in
    cell_declared c.in_ok-place-in-Reserved-Cell.ensures _ _ _ _ is
    (λ i. record { texts = texts_of p.texts; items = record { cells = c.in_ok-push-in-Reserved-Cell.ensures.items i; premises = vec_items p.draft.premises; constraints = vec_items p.draft.constraints }; found = p.found })

pub returns-in_err-place-in-Reserved-Premise : goal.returns-in_err-place-in-Reserved-Premise
returns-in_err-place-in-Reserved-Premise c =
    let h = c.in-Reserved-Premise in
    let is = first-is _ _ _ c.in-len1-up.len_at_least (ap meant h.is ∙ ap reserved (rw h.is at h.field-0-is)) in
    let r = err_from_is_err_and c.from_residual-in_err-place-in-Reserved-Premise.result c.from_residual-in_err-place-in-Reserved-Premise.ensures.1 in
    rw (r.1, r.2) (says _ (ap (parse_line limit) is) (c.in_err-place-in-Reserved-Premise.ensures (premise _)))

pub returns-in_ok-push-in-Reserved-Premise : goal.returns-in_ok-push-in-Reserved-Premise
returns-in_ok-push-in-Reserved-Premise c =
    let h = c.in-Reserved-Premise in
    let is = first-is _ _ _ c.in-len1-up.len_at_least (ap meant h.is ∙ ap reserved (rw h.is at h.field-0-is)) in
    let p = c.new_place-in-Reserved-Premise.new.self in
    premise_declared c.in_ok-place-in-Reserved-Premise.ensures _ _ _ _ is
    (λ i. record { texts = texts_of p.texts; items = record { cells = vec_items p.draft.cells; premises = c.in_ok-push-in-Reserved-Premise.ensures.items i; constraints = vec_items p.draft.constraints }; found = p.found })

pub returns-in-Some : goal.returns-in-Some
returns-in-Some c =
    let name : NameRead = record { column = _; bytes = c.in-Name.bytes } in
    let is = first-is _ _ _ c.in-len1-up.len_at_least (ap meant c.in-Name.is) ∙ ap (λ s. name_spot (tree_name name) ∷ s) (passed c.in-Some.ensures) in
    line_owned c.body.result _ _ _ (tree_name name) _ _ _ _ _ is c.premise_named-owner.ensures.premise c.premise_named-owner.ensures.after c.body.ensures

pub returns-in-None : goal.returns-in-None
returns-in-None c =
    let is = first-is _ _ _ c.in-len1-up.len_at_least (ap meant c.in-Name.is) in
    line_plain c.body-in-None.result _ _ _ _ (ap plain is ∙ ap not c.in-None.ensures) c.body-in-None.ensures

pub returns-in_default-token : goal.returns-in_default-token
returns-in_default-token c =
    let other : plain (spots c.args.words.now) ≡ true = search rules in
    line_plain c.body-in_default-token.result _ _ _ _ other c.body-in_default-token.ensures
