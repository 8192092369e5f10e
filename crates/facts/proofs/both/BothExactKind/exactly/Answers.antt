-- What both parts allow of a Between is what it allows.
use Rattle.std.proofs.Common.{◌&&◌, ap₂, ◌∙◌, arith}
use Rattle.std.proofs.lemmas.Int.{ints}
use Rattle.statements.specs.declared.statement.Statement.TheVariants.{Between}
use Rattle.facts.specs.BothLaws.{both_exact}
use Rattle.facts.proofs.both.BothExactKind.exactly.Goals as goal

pub returns-clause-allows : goal.returns-clause-allows
returns-clause-allows g c =
    let a = g.A.Kind.model in
    let b = g.B.Kind.model in
    let first = c.exactly.ensures.is ∙ ap₂ (λ x y. a.stated (Between x y)) (omega (arith, ints)) (omega (arith, ints)) in
    let second = c.state.ensures ∙ ap₂ (λ x y. b.stated (Between x y)) (omega (arith, ints)) (omega (arith, ints)) in
    λ n. ap₂ (λ x y. a.allows x n && b.allows y n) first second ∙ both_exact a b g.met.A.Kind.lawful g.met.B.Kind.lawful g.met.A.ExactKind.exact c.args.lo c.args.hi n
