-- Each constraint that names the cell is added after those before it.
use Rattle.std.proofs.Common.{◌≡◌, ◌∷◌, [], ◌++◌, eqb, length, vec_items, sym, ap, ◌∙◌, append_assoc, append-nil, length-append, arith, rules}
use Rattle.sets.specs.Members.{listed}
use Rattle.sets.proofs.Counts.{count_le}
use Rattle.sets.proofs.Lists.{listed_none}
use Rattle.plan.specs.Forms.{named}
use Rattle.telling.specs.Tables.{any}
use Rattle.wakes.specs.Naming.{naming}
use Rattle.wakes.proofs.Naming.{naming-read, listed_with, listed_without}
use Rattle.wakes.proofs.Totals.{length-listed}
use Rattle.wakes.proofs.parts.add_part.Goals.{then-names+in_ok-push, else-names}
use Rattle.wakes.proofs.parts.add_part.Goals as goal

pub loop-number-init : goal.loop-number-init
loop-number-init c = sym (ap (λ r. vec_items c.args.numbers.now ++ r) (listed_none _) ∙ append-nil _)

pub loop-number-preserved : goal.loop-number-preserved
loop-number-preserved c =
    let s = naming c.args.constraints.now c.args.cell in
    let i = c.loop-number.number in
    let xs = vec_items c.args.numbers.now in
    let answer : c.names.result ≡ any (λ x. eqb x c.args.cell) (named c.index-constraints-number.result.form) = search rules in
    let here : c.names.result ≡ s i = answer ∙ naming-read c.args.constraints.now c.args.cell i c.index-constraints-number.result c.loop-number-test.true c.index-constraints-number.is in
    elim c.if-names.branch [
      | then-names+in_ok-push w ↦ ap vec_items w.numbers-is ∙ w.in_ok-push.ensures.items ∙ ap (λ r. r ++ (i ∷ [])) c.loop-number.invariant
          ∙ append_assoc xs (listed s i) (i ∷ []) ∙ ap (λ r. xs ++ r) (sym (listed_with s i (sym here ∙ w.if-names.true)))
      | else-names w ↦ ap vec_items w.numbers-is ∙ c.loop-number.invariant ∙ ap (λ r. xs ++ r) (sym (listed_without s i (sym here ∙ w.if-names.false)))
    ]

pub overflow_cast-result-2 : goal.overflow_cast-result-2
overflow_cast-result-2 c =
    let s = naming c.args.constraints.now c.args.cell in
    let i = c.loop-number.number in
    omega (arith, c.requires.few, c.loop-number.auto.number-end, c.len.ensures, c.len-start.ensures, c.loop-number.numbers.ok.0, c.args.numbers.now.ok.0, ap length c.loop-number.invariant, length-append (vec_items c.args.numbers.now) (listed s i), length-listed s i, count_le s i)
