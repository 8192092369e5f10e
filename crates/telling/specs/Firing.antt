-- Firing a constraint: the table afterwards, and the cells whose facts change.
use Rattle.std.specs.Prelude.{ℕ, Bool, cond, List, [], ◌∷◌, ◌++◌}
use Rattle.facts.specs.Model.{Model}
use Rattle.facts.specs.Derived.{none, dead}
use Rattle.plan.specs.Forms.{named}
use Rattle.plan.specs.Placements.{Premises, owned_by}
use Rattle.plan.specs.declared.constraint.Constraint.{Constraint}
use Rattle.forms.specs.Tells.{tells}
use Rattle.forms.specs.declared.tell.Tell.{Tell}
use Rattle.telling.specs.Reasons.{together, premises_only}
use Rattle.telling.specs.Tables.{Table, facts, reasons_of, any, changed}
use Rattle.telling.specs.Telling.{after_told, after_tell}

module _ {F : Type 0} (m : Model F) where
  -- The table after some tells, made in their order until one leaves its cell in conflict.
  unfoldable pub after_tells : Premises → List Tell → Table F → Table F
  after_tells ps [] T = T
  after_tells ps (t ∷ ts) T =
      let T' = after_tell m ps t T in
      cond (none m (T' t.target).fact) T' (after_tells ps ts T')

  -- The table with x told that no number is allowed, for these premises and the reasons of the cells ns.
  unfoldable pub after_dead : Premises → List ℕ → ℕ → Table F → Table F
  after_dead ps ns x T = after_told m x (dead m) (together (premises_only ps) (reasons_of T ns)) T

  -- The table with each of xs told so, in their order.
  unfoldable pub after_deads : Premises → List ℕ → List ℕ → Table F → Table F
  after_deads ps ns [] T = T
  after_deads ps ns (x ∷ xs) T = after_deads ps ns xs (after_dead ps ns x T)

  -- Is one of the cells in conflict?
  abbrev pub any_in_conflict : (ℕ → F) → List ℕ → Bool
  any_in_conflict φ xs = any (λ x. none m (φ x)) xs

  -- The table after firing a constraint: its tells are made; or, where a cell that it names is in conflict already, each cell that it names is told that no number is allowed.
  unfoldable pub fired : Constraint → Table F → Table F
  fired k T =
      cond (any_in_conflict (facts T) (named k.form))
      (after_deads (owned_by k.owner) (named k.form) (named k.form) T)
      (after_tells (owned_by k.owner) (tells k.form) T)

  -- ---- the cells whose facts change, in the order in which they do; one that changes twice comes twice

  -- x, if its fact differs between two tables.
  abbrev pub if_changed : Table F → Table F → ℕ → List ℕ
  if_changed T T' x = cond (changed m T T' x) (x ∷ []) []

  -- The cells that some tells change.
  unfoldable pub tells_change : Premises → List Tell → Table F → List ℕ
  tells_change ps [] T = []
  tells_change ps (t ∷ ts) T =
      let T' = after_tell m ps t T in
      if_changed T T' t.target ++ cond (none m (T' t.target).fact) [] (tells_change ps ts T')

  -- The cells of xs that change when each is told that no number is allowed.
  unfoldable pub deads_change : Premises → List ℕ → List ℕ → Table F → List ℕ
  deads_change ps ns [] T = []
  deads_change ps ns (x ∷ xs) T = if_changed T (after_dead ps ns x T) x ++ deads_change ps ns xs (after_dead ps ns x T)

  -- The cells that firing a constraint changes.
  unfoldable pub fired_change : Constraint → Table F → List ℕ
  fired_change k T =
      cond (any_in_conflict (facts T) (named k.form))
      (deads_change (owned_by k.owner) (named k.form) (named k.form) T)
      (tells_change (owned_by k.owner) (tells k.form) T)
