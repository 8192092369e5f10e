-- The greatest number from M down is the highest.
use Rattle.std.proofs.Common.{arith}
use Rattle.std.proofs.lemmas.Int.{to_z-of_z}
use Rattle.statements.proofs.Searches.{highest_is}
use Rattle.statements.proofs.Statements.{allowed_within}
use Rattle.statements.proofs.statement.Statement.highest.Goals as goal

pub returns-clause-is : goal.returns-clause-is
returns-clause-is c = grind (arith, to_z-of_z, highest_is, allowed_within)
