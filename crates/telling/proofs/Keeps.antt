-- What each tell of a firing keeps, the firing keeps.
use Rattle.std.proofs.Common.{ℕ, List, [], ◌∷◌}
use Rattle.std.specs.List.{AllByRecursion}
use Rattle.std.proofs.lemmas.Bool.{cond_both}
use Rattle.facts.specs.Model.{Model}
use Rattle.facts.specs.Derived.{none}
use Rattle.plan.specs.Forms.{named}
use Rattle.plan.specs.Placements.{Premises, owned_by}
use Rattle.plan.specs.declared.constraint.Constraint.{Constraint}
use Rattle.forms.specs.Tells.{tells}
use Rattle.forms.specs.declared.tell.Tell.{Tell}
use Rattle.telling.specs.Tables.{Table, facts}
use Rattle.telling.specs.Telling.{after_tell}
use Rattle.telling.specs.Firing.{after_tells, after_dead, after_deads, any_in_conflict, fired}

module _ {F : Type 0} (m : Model F) (P : Table F → Type 0) where
  -- The tell keeps P.
  abbrev pub TellKeeps : Premises → Tell → Type 0
  TellKeeps ps t = (T : Table F) → P T → P (after_tell m ps t T)

  -- Telling the cell that no number is allowed keeps P.
  abbrev pub DeadKeeps : Premises → List ℕ → ℕ → Type 0
  DeadKeeps ps ns x = (T : Table F) → P T → P (after_dead m ps ns x T)

  pub tells_keep : (ps : Premises) (ts : List Tell) → AllByRecursion (TellKeeps ps) ts → (T : Table F) → P T → P (after_tells m ps ts T)
  unfolding after_tells
  tells_keep ps [] keep T p = p
  tells_keep ps (t ∷ ts) keep T p =
      let T' = after_tell m ps t T in
      let p' = keep.0 T p in
      cond_both (none m (T' t.target).fact) T' (after_tells m ps ts T') P (λ e. p') (λ e. tells_keep ps ts keep.1 T' p')

  pub deads_keep : (ps : Premises) (ns xs : List ℕ) → AllByRecursion (DeadKeeps ps ns) xs → (T : Table F) → P T → P (after_deads m ps ns xs T)
  unfolding after_deads
  deads_keep ps ns [] keep T p = p
  deads_keep ps ns (x ∷ xs) keep T p = deads_keep ps ns xs keep.1 (after_dead m ps ns x T) (keep.0 T p)

  pub fired_keeps : (k : Constraint) → AllByRecursion (TellKeeps (owned_by k.owner)) (tells k.form) → AllByRecursion (DeadKeeps (owned_by k.owner) (named k.form)) (named k.form) → (T : Table F) → P T → P (fired m k T)
  unfolding fired
  fired_keeps k keep_tells keep_deads T p =
      let ns = named k.form in
      let ps = owned_by k.owner in
      cond_both (any_in_conflict m (facts T) ns) (after_deads m ps ns ns T) (after_tells m ps (tells k.form) T) P
      (λ e. deads_keep ps ns ns keep_deads T p) (λ e. tells_keep ps (tells k.form) keep_tells T p)
