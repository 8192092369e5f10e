use Rattle.std.proofs.Common.{◌≡◌, ◌∙◌, subst, arith, w64, to_z, of_z}
use Rattle.std.proofs.lemmas.Int.{ints}
use Rattle.statements.specs.Search.{LeastFrom}
use Rattle.statements.specs.Statements.{allowed}
use Rattle.cells.proofs.Readings.{up-unwrap_or}
use Rattle.cells.proofs.reads.least.Goals as goal

pub returns : goal.returns
returns c =
    let s = c.args.s in
    let n-is : to_z w64 (of_z w64 c.args.n) ≡ c.args.n = omega (arith, ints) in
    let result-is : to_z w64 (of_z w64 c.unwrap_or.result) ≡ c.unwrap_or.result = omega (arith, ints) in
    result-is ∙ c.unwrap_or.ensures ∙ up-unwrap_or s c.args.n c.least_from.result (subst (λ n. LeastFrom (allowed s) n c.least_from.result) n-is c.least_from.ensures)
