-- A constraint in force that does not wait has nothing new to say.
use Rattle.std.proofs.Common.{◌≡◌, ℕ, Bool, true, false, not, ◌&&◌, eqb, Some, Option, sym, refl, ap, ◌∙◌, subst}
use mathlib.Core.Path.{fun_ext}
use Rattle.std.specs.List.{slice_get, AllByRecursion}
use Rattle.std.proofs.lemmas.Bool.{cond-true, eqb-true, or_parts, not-false}
use Rattle.statements.proofs.Tests.{test_clash, test_cases}
use Rattle.facts.specs.Model.{Model}
use Rattle.facts.specs.Laws.{Laws}
use Rattle.plan.specs.Forms.{named}
use Rattle.plan.specs.Placements.{Premises, InForce}
use Rattle.plan.specs.declared.constraint.Constraint.{Constraint}
use Rattle.sets.specs.Members.{Members, Nobody, among}
use Rattle.telling.specs.Tables.{Cell, Table, facts, bare, any, changed}
use Rattle.telling.specs.Firing.{fired}
use Rattle.telling.specs.Stable.{Stable, Tidy, Still}
use Rattle.telling.proofs.Cases.{any_none, all_among, all_weaker}
use Rattle.telling.proofs.Fires.{Calm, fired-still, fired_calm}
use Rattle.telling.proofs.Locals.{calm_local}
use Rattle.telling.proofs.Changes.{only-fired}
use Rattle.calls.specs.Networks.{Net, Planned, in_force}
use Rattle.calls.specs.Boards.{Board, without, concerns, woken}
use Rattle.calls.specs.Running.{after_taken, after_step}
use Rattle.laws.proofs.Numbered.{all_from_nth, in_force_made}

module _ {F : Type 0} (m : Model F) (l : Laws m) where
  pub unchanged_fact : (T T' : Table F) (x : ℕ) → changed m T T' x ≡ false → (T x).fact ≡ (T' x).fact
  unchanged_fact T T' x e = (l.equal_decides (T x).fact (T' x).fact).0 (not-false (m.equal (T x).fact (T' x).fact) e)

  module _ (N : Net) where
    -- Each constraint in force that does not wait has nothing new to say.
    abbrev pub Calmed : Premises → Board F → Type 0
    Calmed force b = (j : ℕ) (k : Constraint) → slice_get N.constraints j ≡ Some k → in_force force k ≡ true → b.waits j ≡ false → Calm m (facts b.table) k.form

    and_rest : (a b : Bool) → a ≡ true → (a && b) ≡ false → b ≡ false
    and_rest true b p q = q
    and_rest false b p q = test_clash p refl

    -- A constraint in force that was not woken names no cell of the set.
    pub woken_no : (force : Premises) (cells w : Members) (j : ℕ) (k : Constraint) → slice_get N.constraints j ≡ Some k → in_force force k ≡ true → woken N force cells w j ≡ false →
        (w j ≡ false) × (any cells (named k.form) ≡ false)
    woken_no force cells w j k at inf e =
        let r = or_parts (w j) (concerns force cells (slice_get N.constraints j)) e in
        (r.0, and_rest (in_force force k) (any cells (named k.form)) inf (sym (ap (concerns force cells) at) ∙ r.1))

    pub woken_calmed : (force : Premises) (cells w : Members) (T T' : Table F) → ((x : ℕ) → cells x ≡ false → (T x).fact ≡ (T' x).fact) →
        Calmed force (record { table = T; waits = w }) → Calmed force (record { table = T'; waits = woken N force cells w })
    woken_calmed force cells w T T' same calm j k at inf e =
        let r = woken_no force cells w j k at inf e in
        calm_local m (facts T) (facts T') k.form
        (all_weaker (λ x. cells x ≡ false) (λ x. (T x).fact ≡ (T' x).fact) same (named k.form) (any_none cells (named k.form) r.1))
        (calm j k at inf r.0)

    without_other : (j i : ℕ) (w : Members) → eqb i j ≡ false → without j w i ≡ w i
    without_other j i w e = ap (λ z. not z && w i) e

    pub after_step_calmed : (force : Premises) (j : ℕ) (b : Board F) → Calmed force b → Calmed force (after_step m N force j b)
    unfolding after_step
    after_step_calmed force j b calm i k at inf e =
        let T = b.table in
        let T' = after_taken m N force (slice_get N.constraints j) T in
        let w = without j b.waits in
        let r = woken_no force (changed m T T') w i k at inf e in
        let near : AllByRecursion (λ x. (T x).fact ≡ (T' x).fact) (named k.form) =
        all_weaker (λ x. changed m T T' x ≡ false) (λ x. (T x).fact ≡ (T' x).fact) (unchanged_fact T T') (named k.form) (any_none (changed m T T') (named k.form) r.1) in
        test_cases {P = Calm m (facts T') k.form} (eqb i j)
        (λ ij.
        let T'-is : T' ≡ fired m k T =
        ap (λ (z : ℕ). after_taken m N force (slice_get N.constraints z) T) (sym (eqb-true i j ij))
        ∙ (ap (λ (z : Option Constraint). after_taken m N force z T) at ∙ cond-true (in_force force k) (fired m k T) T inf) in
        let same : facts T' ≡ facts T =
        fun_ext (λ x. test_cases {P = (T' x).fact ≡ (T x).fact} (among x (named k.form))
        (λ p. sym (all_among (λ z. (T z).fact ≡ (T' z).fact) (named k.form) x near p))
        (λ p. ap (λ (Z : Table F). (Z x).fact) T'-is ∙ ap (λ (c : Cell F). c.fact) (only-fired m l k T x p))) in
        subst (λ φ. Calm m φ k.form) (sym same) (fired-still m l k T (ap facts (sym T'-is) ∙ same)))
        (λ ij. calm_local m (facts T) (facts T') k.form near (calm i k at inf (sym (without_other j i b.waits ij) ∙ r.0)))

    -- Where nothing waits and each fact is its own tidy, the table is stable.
    pub calmed_stable : (force : Premises) (b : Board F) → Planned N → Calmed force b → Nobody b.waits → Tidy m (facts b.table) → Stable m N.constraints force (facts b.table)
    calmed_stable force b ok calm idle tidy = record {
      tidy = tidy;
      still = all_from_nth (λ k. InForce force k → Still m k (facts b.table)) N.constraints
          (λ j k at f. fired_calm m l k (bare (facts b.table)) (calm j k at (in_force_made force k f) (idle j)));
    }
