use Rattle.std.proofs.Common.{sym, ◌∙◌, rules}
use Rattle.std.proofs.lemmas.Iterator.Search.{any_from_yields_List}
use Rattle.std.proofs.lemmas.Iterator.Consumers.{YieldsList-from_first}
use Rattle.facts.specs.Derived.{none}
use Rattle.plan.specs.Forms.{named}
use Rattle.cells.specs.Meaning.{table_of}
use Rattle.telling.proofs.Cases.{any-list}
use Rattle.cells.proofs.fire.has_conflict.Goals as goal

pub returns : goal.returns
returns g c =
    let m = g.K.Kind.model in
    let T = table_of m c.args.table.now in
    any_from_yields_List (λ x. none m (T x).fact) _ _ _ c.any.ensures.ran (YieldsList-from_first (λ x. x) (λ rest. rest) (named c.args.form) c.named.ensures) (λ x b q k. search rules) ∙ sym (any-list (λ x. none m (T x).fact) (named c.args.form))
