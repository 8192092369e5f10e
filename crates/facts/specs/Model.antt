-- What the facts of a kind mean.
use Rattle.std.specs.Prelude.{◌≡◌, ℕ, Bool, ℤ}
use Rattle.statements.specs.declared.statement.Statement.{Statement}

-- The meaning of a kind whose facts are F: the numbers that a fact allows, the fact that a statement gives, what two facts say together, whether two are equal, and how far a fact can still narrow.
pub record Model (F : Type 0) : Type 0 where
  pub allows : F → ℤ → Bool
  pub stated : Statement → F
  pub meet : F → F → F
  pub equal : F → F → Bool
  pub size : F → ℕ

-- f tells at least g.
abbrev pub Tells : {F : Type 0} → Model F → F → F → Type 0
Tells m f g = m.meet f g ≡ f
