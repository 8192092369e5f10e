-- Each step makes the number waiting, plus the number of constraints times the table's size, smaller.
use Rattle.std.proofs.Common.{◌≡◌, ℕ, suc, ◌+◌, ◌*◌, ◌<◌, ◌≤◌, true, false, not, ◌&&◌, eqb, length, Some, None, Option, refl, ap, ⊎_elim, mul-le-mul_left, arith}
use Rattle.std.specs.List.{slice_get}
use Rattle.std.proofs.lemmas.Option.{slice_get_within}
use Rattle.std.proofs.lemmas.Bool.{cond_both, or_cases, and_parts, eq-eqb}
use Rattle.statements.proofs.Tests.{test_clash, test_cases}
use Rattle.facts.specs.Model.{Model}
use Rattle.facts.specs.Laws.{Laws}
use Rattle.plan.specs.Forms.{named}
use Rattle.plan.specs.Placements.{Premises}
use Rattle.plan.specs.declared.constraint.Constraint.{Constraint}
use Rattle.sets.specs.Members.{Members, count}
use Rattle.telling.specs.Tables.{Table, facts, any, changed, table_size}
use Rattle.telling.specs.Firing.{fired}
use Rattle.telling.proofs.Cases.{any_clash, all_weaker}
use Rattle.telling.proofs.Fires.{Below, below_refl, fired_below}
use Rattle.telling.proofs.Sizes.{below_size_le, below_size_lt}
use Rattle.calls.specs.Networks.{Net, Planned, in_force}
use Rattle.calls.specs.Boards.{Board, any_below, without, concerns, woken}
use Rattle.calls.specs.Running.{after_taken, after_step}
use Rattle.laws.proofs.Numbered.{any_below_no, any_below_yes, count_mono, count_less, count_below, named_below}

-- ---- waking

module _ (N : Net) where
  -- A number that is woken is that of a constraint, in force, which names a cell of the set.
  pub concerns-some : {P : Type 0} (force : Premises) (cells : Members) (o : Option Constraint) → concerns force cells o ≡ true → ((k : Constraint) → o ≡ Some k → any cells (named k.form) ≡ true → P) → P
  concerns-some force cells None e f = test_clash e refl
  concerns-some force cells (Some k) e f = f k refl (and_parts (in_force force k) (any cells (named k.form)) e).1

  pub woken_bounded : (force : Premises) (cells w : Members) → ((j : ℕ) → w j ≡ true → j < length N.constraints) → (j : ℕ) → woken N force cells w j ≡ true → j < length N.constraints
  woken_bounded force cells w b j e =
      ⊎_elim (b j) (λ h. concerns-some force cells (slice_get N.constraints j) h (λ k at _. slice_get_within N.constraints j k at)) (or_cases (w j) (concerns force cells (slice_get N.constraints j)) e)

pub without_member : (j i : ℕ) (w : Members) → without j w i ≡ true → w i ≡ true
without_member j i w e = (and_parts (not (eqb i j)) (w i) e).1

without_self : (j : ℕ) (w : Members) → without j w j ≡ false
without_self j w = ap (λ z. not z && w j) (eq-eqb j j refl)

-- ---- sizes

falls_much : (C w w' S S' : ℕ) → S' < S → w' ≤ C → 0 < w → suc (w' + C * S') ≤ w + C * S
falls_much C w w' S S' a b c = let h : C * suc S' ≤ C * S = mul-le-mul_left C a in omega arith

falls_little : (C w w' S S' : ℕ) → S' ≤ S → w' < w → suc (w' + C * S') ≤ w + C * S
falls_little C w w' S S' a b = let h : C * S' ≤ C * S = mul-le-mul_left C a in omega arith

module _ {F : Type 0} (m : Model F) (l : Laws m) (N : Net) where
  pub after_taken_below : (force : Premises) (o : Option Constraint) (T : Table F) → Below m (facts (after_taken m N force o T)) (facts T)
  after_taken_below force None T = below_refl m l (facts T)
  after_taken_below force (Some k) T =
      cond_both (in_force force k) (fired m k T) T (λ z. Below m (facts z) (facts T)) (λ e. fired_below m l k T) (λ e. below_refl m l (facts T))

  -- The number waiting, plus the number of constraints times the size of the table.
  abbrev pub measure : Board F → ℕ
  measure b = count b.waits 512 + length N.constraints * table_size m N.cells b.table

  pub after_step-size : (force : Premises) (j : ℕ) (b : Board F) → table_size m N.cells (after_step m N force j b).table ≤ table_size m N.cells b.table
  unfolding after_step
  after_step-size force j b = below_size_le m l N.cells (after_taken m N force (slice_get N.constraints j) b.table) b.table (after_taken_below force (slice_get N.constraints j) b.table)

  pub after_step_falls : Planned N → (force : Premises) (j : ℕ) (b : Board F) → ((i : ℕ) → b.waits i ≡ true → i < length N.constraints) → b.waits j ≡ true → suc (measure (after_step m N force j b)) ≤ measure b
  unfolding after_step
  after_step_falls ok force j b bounded wj =
      let T = b.table in
      let T' = after_taken m N force (slice_get N.constraints j) T in
      let C = length N.constraints in
      let w = b.waits in
      let w₁ = without j w in
      let ch = changed m T T' in
      let w' = woken N force ch w₁ in
      let S = table_size m N.cells T in
      let S' = table_size m N.cells T' in
      let small : Below m (facts T') (facts T) = after_taken_below force (slice_get N.constraints j) T in
      let few = ok.few_constraints in
      let jC = bounded j wj in
      let lost : count w₁ 512 < count w 512 = count_less w₁ w 512 j (λ i _ h. without_member j i w h) (omega arith) (without_self j w) wj in
      test_cases {P = suc (count w' 512 + C * S') ≤ count w 512 + C * S} (any_below N.cells ch)
      (λ e.
      let r = any_below_yes N.cells ch e in
      falls_much C (count w 512) (count w' 512) S S' (below_size_lt m l N.cells T' T small r.0 r.1 r.2)
      (count_below w' C 512 (woken_bounded N force ch w₁ (λ i h. bounded i (without_member j i w h)))) (omega arith))
      (λ e.
      let same : count w' 512 ≤ count w₁ 512 =
      count_mono w' w₁ 512 (λ i _ h.
      ⊎_elim (λ p. p)
      (λ p. concerns-some N force ch (slice_get N.constraints i) p
      (λ k at hit. any_clash ch (named k.form)
      (all_weaker (λ x. x < N.cells) (λ x. ch x ≡ false) (λ x lx. any_below_no N.cells ch e x lx) (named k.form) (named_below N ok i k at)) hit))
      (or_cases (w₁ i) (concerns force ch (slice_get N.constraints i)) h)) in
      falls_little C (count w 512) (count w' 512) S S' (below_size_le m l N.cells T' T small) (omega arith))
