-- Laws of every statement.
use Rattle.statements.specs.Numbers.{Within}
use Rattle.statements.specs.Statements.{allowed}
use Rattle.statements.specs.declared.statement.Statement.{Statement}
use Rattle.statements.specs.declared.statement.Statement.TheVariants.{Between, Aligned}
use Rattle.statements.proofs.Betweens.{between_within}
use Rattle.statements.proofs.Aligneds.{aligned_within}

-- A statement allows numbers of U only.
pub allowed_within : (s : Statement) → Within (allowed s)
allowed_within (Between lo hi) = between_within lo hi
allowed_within (Aligned a) = aligned_within a
