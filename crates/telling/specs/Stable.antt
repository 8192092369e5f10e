-- Stable tables, and how a table of facts or a placement lies to a table of cells.
use Rattle.std.specs.Prelude.{◌≡◌, ℕ, true, false, List}
use Rattle.std.specs.List.{AllByRecursion}
use Rattle.facts.specs.Model.{Model, Tells}
use Rattle.facts.specs.Derived.{low, high, none, tidy}
use Rattle.plan.specs.Placements.{Placement, Premises, InForce}
use Rattle.plan.specs.declared.constraint.Constraint.{Constraint}
use Rattle.telling.specs.Reasons.{Reasons, Among}
use Rattle.telling.specs.Tables.{Table, facts, bare}
use Rattle.telling.specs.Firing.{fired}

module _ {F : Type 0} (m : Model F) where
  -- Firing the constraint changes no fact.
  abbrev pub Still : Constraint → (ℕ → F) → Type 0
  Still k φ = facts (fired m k (bare φ)) ≡ φ

  -- Each fact is its own tidy.
  abbrev pub Tidy : (ℕ → F) → Type 0
  Tidy φ = (x : ℕ) → tidy m (φ x) ≡ φ x

  -- Each fact is its own tidy, and no constraint in force under the premises s changes a fact by firing.
  pub record Stable (ks : List Constraint) (s : Premises) (φ : ℕ → F) : Type 0 where
    pub tidy : Tidy φ
    pub still : AllByRecursion (λ k. InForce s k → Still k φ) ks

  -- The facts φ tell at least as much as each cell.
  abbrev pub Above : (ℕ → F) → Table F → Type 0
  Above φ T = (x : ℕ) → Tells m (φ x) (T x).fact

  -- The facts φ tell at least as much as each cell whose reasons are among r.
  abbrev pub AboveBy : Reasons → (ℕ → F) → Table F → Type 0
  AboveBy r φ T = (x : ℕ) → Among (T x).reasons r → Tells m (φ x) (T x).fact

  -- Each cell allows the placement's number.
  abbrev pub Lies : Placement → Table F → Type 0
  Lies v T = (x : ℕ) → m.allows (T x).fact (v x) ≡ true

  -- Each cell whose reasons are among r allows the placement's number.
  abbrev pub LiesBy : Reasons → Placement → Table F → Type 0
  LiesBy r v T = (x : ℕ) → Among (T x).reasons r → m.allows (T x).fact (v x) ≡ true

  -- The cell allows just one number, its lowest.
  abbrev pub One : (ℕ → F) → ℕ → Type 0
  One φ x = (none m (φ x) ≡ false) × (low m (φ x) ≡ high m (φ x))
