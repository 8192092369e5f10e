-- What a statement allows.
use Rattle.std.specs.Prelude.{Bool, ℤ}
use Rattle.statements.specs.Between.{between}
use Rattle.statements.specs.Aligned.{aligned}
use Rattle.statements.specs.declared.statement.Statement.{Statement}
use Rattle.statements.specs.declared.statement.Statement.TheVariants.{Between, Aligned}

-- Does the statement allow the number?
abbrev pub allowed : Statement → ℤ → Bool
allowed (Between lo hi) = between lo hi
allowed (Aligned a) = aligned a
