use Rattle.std.proofs.Common.{◌+◌, length, ap, ◌∙◌, arith}
use Rattle.grammar.specs.Parse.{rest, name_next, whole, parse}
use Rattle.sheet.specs.Next.{tree_name}
use Rattle.sheet.specs.Reads.{limit, spots}
use Rattle.sheet.proofs.Lines.{name-near}
use Rattle.sheet.proofs.reading.Reading.new_place.Goals as goal

pub overflow_add-result : goal.overflow_add-result
overflow_add-result c = omega (arith, c.requires.inside, c.saturating_sub.ensures, name-near _ _ c.in_ok-new.new c.requires.near c.in_ok-new.ensures)

pub returns : goal.returns
returns c = record {
  new = tree_name c.in_ok-new.new;
  place = ap (λ k. record { text = c.args.start.text; start = c.args.start.offset + k; len = length c.in_ok-new.new.bytes.now }) c.saturating_sub.ensures;
  goes = λ f. ap (parse limit (rest (name_next (λ n. whole (f n))))) c.in_ok-new.ensures ∙ ap (λ s. parse limit (rest (whole (f (tree_name c.in_ok-new.new)))) (spots s)) c.in_ok-end.ensures;
  leaves = c.note_new.ensures;
}
