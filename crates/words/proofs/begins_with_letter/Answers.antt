-- Where no byte is, there is no letter.
use Rattle.std.proofs.Common.{sym, ap, ◌∙◌, arith}
use Rattle.std.proofs.lemmas.List.{get_or_past}
use Rattle.words.specs.Class.{is_class}
use Rattle.words.proofs.Classes.{none_letter}
use Rattle.words.proofs.begins_with_letter.Goals as goal

pub returns-in-empty : goal.returns-in-empty
returns-in-empty c = sym (ap (is_class 1) (get_or_past c.args.s.now 0 0 (omega arith)) ∙ none_letter)
