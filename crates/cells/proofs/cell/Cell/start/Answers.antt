use Rattle.std.proofs.Common.{ap₂}
use Rattle.facts.specs.Derived.{start}
use Rattle.telling.specs.Reasons as theory
use Rattle.telling.specs.Tables as tables
use Rattle.cells.proofs.cell.Cell.start.Goals as goal

pub returns : goal.returns
unfolding start
returns g c =
    let cell : g.row.K.Denot → theory.Reasons → tables.Cell g.row.K.Denot = λ f r. record { fact = f; reasons = r } in
    ap₂ cell c.state.ensures c.none.ensures
