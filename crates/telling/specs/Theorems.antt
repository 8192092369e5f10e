-- What firing promises, in every lawful kind.
use Rattle.std.specs.Prelude.{◌≡◌, ℕ, ◌<◌, ◌≤◌, true, false, ◌≢◌, List}
use Rattle.std.specs.List.{AllByRecursion}
use Rattle.facts.specs.Laws.{Exact}
use Rattle.facts.specs.Model.{Model}
use Rattle.facts.specs.Derived.{low}
use Rattle.plan.specs.Forms.{named}
use Rattle.plan.specs.Placements.{Placement, Placed, Satisfies, Premises, owned_by, InForce}
use Rattle.plan.specs.declared.constraint.Constraint.{Constraint}
use Rattle.forms.specs.declared.tell.Tell.{Tell}
use Rattle.sets.specs.Members.{among}
use Rattle.telling.specs.Reasons.{Reasons, Among, premises_only}
use Rattle.telling.specs.Tables.{Cell, Table, facts, changed, table_size}
use Rattle.telling.specs.Telling.{is_made, told_cell, after_tell}
use Rattle.telling.specs.Firing.{fired, fired_change}
use Rattle.telling.specs.Stable.{Still, Stable, Above, AboveBy, Lies, LiesBy, One}

-- Firing tells no more than a stable table does.
pub record TellsNoMore {F : Type 0} (m : Model F) : Type 0 where
  -- A stable table above the present one is still above it after firing a constraint in force.
  pub above_stays : (ks : List Constraint) (s : Premises) (φ : ℕ → F) → Stable m ks s φ → (T : Table F) → Above m φ T → AllByRecursion (λ k. InForce s k → Above m φ (fired m k T)) ks
  -- The same of the cells whose reasons are premises of s, whichever constraint is fired: what rests on other reasons is no matter.
  pub above_by_reasons : (ks : List Constraint) (s : Premises) (φ : ℕ → F) → Stable m ks s φ → (T : Table F) → AboveBy m (premises_only s) φ T → AllByRecursion (λ k. AboveBy m (premises_only s) φ (fired m k T)) ks

-- Firing loses no placement.
pub record LosesNone {F : Type 0} (m : Model F) : Type 0 where
  -- A placement that lies within the cells and satisfies the constraint still lies within them after firing it.
  pub lies_stays : (k : Constraint) (v : Placement) → Placed v → Satisfies v k.form → (T : Table F) → Lies m v T → Lies m v (fired m k T)
  -- The same of the cells whose reasons are among r, for a placement that satisfies the constraint if its premises are among r.
  pub lies_by_reasons : (k : Constraint) (v : Placement) → Placed v → (r : Reasons) → (Among (premises_only (owned_by k.owner)) r → Satisfies v k.form) → (T : Table F) → LiesBy m r v T → LiesBy m r v (fired m k T)

-- In an exact kind, a constraint that changes nothing where each of its cells has one number is satisfied by those numbers.
abbrev pub SettlesRight : {F : Type 0} → Model F → Type 0
SettlesRight {F} m = Exact m → (k : Constraint) (φ : ℕ → F) → AllByRecursion (One m φ) (named k.form) → Still m k φ → Satisfies (λ x. low m (φ x)) k.form

-- Each change makes a table smaller.
pub record Shrinks {F : Type 0} (m : Model F) : Type 0 where
  -- A cell that is told something new has a smaller fact.
  pub told_shrinks : (g : F) (s : Reasons) (c : Cell F) → (told_cell m g s c).fact ≢ c.fact → m.size (told_cell m g s c).fact < m.size c.fact
  -- Where firing changes one of the first n facts, these are smaller together.
  pub fired_shrinks : (n : ℕ) (k : Constraint) (T : Table F) (x : ℕ) → x < n → changed m T (fired m k T) x ≡ true → table_size m n (fired m k T) < table_size m n T
  -- They are never larger.
  pub fired_not_larger : (n : ℕ) (k : Constraint) (T : Table F) → table_size m n (fired m k T) ≤ table_size m n T

-- How a firing goes.
pub record GoesSo {F : Type 0} (m : Model F) : Type 0 where
  -- The cells that it is said to change are exactly those whose fact changed.
  pub change_exactly : (k : Constraint) (T : Table F) (x : ℕ) → among x (fired_change m k T) ≡ changed m T (fired m k T) x
  -- It touches only cells that the constraint names.
  pub touches_named : (k : Constraint) (T : Table F) (x : ℕ) → among x (named k.form) ≡ false → fired m k T x ≡ T x
  -- A condition is as good as looked at once for tells that share it: a tell leaves its own condition as it was.
  pub condition_kept : (ps : Premises) (t : Tell) (T : Table F) → is_made m (facts (after_tell m ps t T)) t ≡ is_made m (facts T) t
  -- The facts afterwards are a matter of the facts before, whatever the reasons.
  pub facts_alone : (k : Constraint) (T T' : Table F) → facts T ≡ facts T' → facts (fired m k T) ≡ facts (fired m k T')
