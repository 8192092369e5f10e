use Rattle.std.proofs.Common.{◌≡◌, false, rules, ap, ◌∙◌}
use Rattle.words.specs.Words.{reserved, meant}
use Rattle.grammar.specs.Parse.{after_in, after_align, after_apart, body, parse}
use Rattle.sheet.specs.Reads.{limit, spots}
use Rattle.sheet.proofs.Heads.{headed, headless-short, body-bound, body-form}
use Rattle.sheet.proofs.Steps.{first-two}
use Rattle.sheet.proofs.reading.Reading.body.Goals as goal

pub returns-in_default : goal.returns-in_default
returns-in_default c = body-bound c.at_most.result _ _ _ _ (headless-short _ c.in_default.len_below) c.at_most.ensures

pub returns-in-In : goal.returns-in-In
returns-in-In c =
    let h = c.in-Name-Reserved in
    let is = first-two _ _ _ _ c.in-len2-up.len_at_least (ap meant h.is-0) (ap meant h.is-1 ∙ ap reserved c.in-In.is) in
    body-form after_in c.within.result _ _ _ _ _ _ _ (λ o. ap (parse limit (body o)) is) c.within.ensures

pub returns-in-Align : goal.returns-in-Align
returns-in-Align c =
    let h = c.in-Name-Reserved in
    let is = first-two _ _ _ _ c.in-len2-up.len_at_least (ap meant h.is-0) (ap meant h.is-1 ∙ ap reserved c.in-Align.is) in
    body-form after_align c.aligned.result _ _ _ _ _ _ _ (λ o. ap (parse limit (body o)) is) c.aligned.ensures

pub returns-in-Apart : goal.returns-in-Apart
returns-in-Apart c =
    let h = c.in-Name-Reserved in
    let is = first-two _ _ _ _ c.in-len2-up.len_at_least (ap meant h.is-0) (ap meant h.is-1 ∙ ap reserved c.in-Apart.is) in
    body-form after_apart c.apart.result _ _ _ _ _ _ _ (λ o. ap (parse limit (body o)) is) c.apart.ensures

pub returns-in_default-2 : goal.returns-in_default-2
returns-in_default-2 c =
    let plain : headed (spots c.args.words.now) ≡ false = search rules in
    body-bound c.at_most-in_default-2.result _ _ _ _ plain c.at_most-in_default-2.ensures
