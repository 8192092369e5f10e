-- What no network does.
use Rattle.std.proofs.Common.{◌≡◌, ℕ, zero, suc, ◌+◌, ◌<◌, ◌≤◌, true, false, not, eqb, List, [], ◌∷◌, Some, Option, sym, refl, ap, ◌∙◌, subst, arith}
use Rattle.std.specs.List.{slice_get}
use Rattle.std.proofs.lemmas.Bool.{cond_both, cond-true, cond-false, eqb-true, eq-eqb, false_from_ne_true}
use Rattle.statements.proofs.Tests.{test_clash, test_cases}
use Rattle.facts.specs.Model.{Model}
use Rattle.facts.specs.Laws.{Laws}
use Rattle.plan.specs.Placements.{Placed, Premises, owned_by}
use Rattle.plan.specs.declared.constraint.Constraint.{Constraint}
use Rattle.telling.specs.Reasons.{premise, guess, Reasons, Among, premises_only}
use Rattle.telling.specs.Tables.{Table, upd}
use Rattle.telling.specs.Firing.{fired}
use Rattle.telling.proofs.Fits.{Fits, fired-fits}
use Rattle.calls.specs.Networks.{Net, within, in_force, NoneMeets}
use Rattle.calls.specs.Boards.{Board}
use Rattle.calls.specs.Running.{Outcome, quiet, conflict, spent, after_taken, after_step, Run, clashes, rests, tires, steps}
use Rattle.calls.specs.Searching.{Search, Finding, found, none_left, full, spent as tired, Seek, fails, finds, fills, moves}
use Rattle.calls.specs.Searching.{tires as wearies}
use Rattle.calls.specs.States.{State}
use Rattle.calls.specs.Refusals.{kept_conflict, number_of, Row, first_row, kept_rows, while_open, uncleared, absent, brought, refusal}
use Rattle.calls.specs.Calls.{Answer, refused, done, lifted, ran, shown, listed, sought, finished}
use Rattle.calls.specs.Histories.{Event}
use Rattle.laws.specs.Promises.{Always, OnRun, OnConflict, OnSeek, OnNone, OverHistories, Contradicted, ConflictsRight}
use Rattle.laws.specs.Excluded.{OwnReasonsOnly, WithinBudget, OnlyInVain, OnlyKept}
use Rattle.laws.proofs.Numbered.{none_some, meets_fewer}
use Rattle.laws.proofs.Histories.{promises}

-- ---- reasons

-- Every reason but premise p.
abbrev others : ℕ → Reasons
others p (premise q) = not (eqb p q)
others p (guess g) = true

others_hold : (p : ℕ) (r : Reasons) → r (premise p) ≡ false → Among r (others p)
others_hold p r free (premise q) e = ap not (false_from_ne_true (eqb p q) (λ same. test_clash e (subst (λ z. r (premise z) ≡ false) (eqb-true p q same) free)))
others_hold p r free (guess g) e = refl

pub own_reasons-only : {F : Type 0} (m : Model F) → Laws m → OwnReasonsOnly m
unfolding after_step
own_reasons-only {F} m l N force j k at p free b tidy clear x =
    subst (λ (T : Table F). (T x).reasons (premise p) ≡ false) (sym (ap (λ (o : Option Constraint). after_taken m N force o b.table) at))
    (cond_both (in_force force k) (fired m k b.table) b.table (λ (T : Table F). (T x).reasons (premise p) ≡ false)
    (λ e.
    let fits : Fits m l (others p) (fired m k b.table) =
    fired-fits m l (others p) k b.table (others_hold p (premises_only (owned_by k.owner)) free) (λ y. record { tidy = tidy y; scope = others_hold p (b.table y).reasons (clear y) }) in
    false_from_ne_true ((fired m k b.table x).reasons (premise p)) (λ h. test_clash ((fits x).scope (premise p) h) (ap not (eq-eqb p p refl))))
    (λ e. clear x))

-- ---- budgets

module _ {F : Type 0} (m : Model F) (N : Net) (force : Premises) where
  run_within : {i : ℕ} {b : Board F} {o : Outcome} {n : ℕ} {b' : Board F} → Run m N force i b o n b' → n ≤ i
  run_within (clashes i x b low) = omega arith
  run_within (rests i b clean idle) = omega arith
  run_within (tires j b clean w) = omega arith
  run_within (steps i n j b b' o clean w r) = let h = run_within r in omega arith

  seek_within : {i : ℕ} {q : Search F} {o : Finding} {n : ℕ} {q' : Search F} → Seek m N force i q o n q' → n ≤ i
  seek_within (fails i q r v) = omega arith
  seek_within (finds i q v) = omega arith
  seek_within (fills i q v) = omega arith
  seek_within (wearies q q₁ v) = omega arith
  seek_within (moves i n q q₁ q' o v r) = let h = seek_within r in omega arith

pub within_budget : {F : Type 0} (m : Model F) → WithinBudget m
within_budget m = record { run_within = λ N force i b o n b' r. run_within m N force r; seek_within = λ N force i q o n q' r. seek_within m N force r }

-- ---- none and conflicts

module _ {F : Type 0} (N : Net) where
  fewer_vain : (s : State F) (r : Premises) → Contradicted N s r → NoneMeets Placed N s.force
  fewer_vain s r h v P meets = h.0 v P (meets_fewer v s.force r N.constraints h.1 meets)

  vain_run : (s : State F) (o : Outcome) → OnConflict (Contradicted N s) o → OnConflict (λ r. NoneMeets Placed N s.force) o
  vain_run s quiet h = tt
  vain_run s (conflict r) h = fewer_vain s r h
  vain_run s spent h = tt

  vain_seek : (s : State F) (o : Finding) → OnNone (Contradicted N s) o → OnNone (λ r. NoneMeets Placed N s.force) o
  vain_seek s found h = tt
  vain_seek s (none_left r) h = fewer_vain s r h
  vain_seek s full h = tt
  vain_seek s tired h = tt

  on_run : (s : State F) (a : Answer) → OnRun (λ o n. OnConflict (Contradicted N s) o) a → OnRun (λ o n. OnConflict (λ r. NoneMeets Placed N s.force) o) a
  on_run s (refused r) h = tt
  on_run s done h = tt
  on_run s (lifted n) h = tt
  on_run s (ran o n) h = vain_run s o h
  on_run s (shown e r) h = tt
  on_run s (listed r) h = tt
  on_run s (sought o n) h = tt
  on_run s (finished n) h = tt

  on_seek : (s : State F) (a : Answer) → OnSeek (λ o n. OnNone (Contradicted N s) o) a → OnSeek (λ o n. OnNone (λ r. NoneMeets Placed N s.force) o) a
  on_seek s (refused r) h = tt
  on_seek s done h = tt
  on_seek s (lifted n) h = tt
  on_seek s (ran o n) h = tt
  on_seek s (shown e r) h = tt
  on_seek s (listed r) h = tt
  on_seek s (sought o n) h = vain_seek s o h
  on_seek s (finished n) h = tt

  vain_events : (es : List (Event F)) → Always (ConflictsRight N) es → Always (OnlyInVain N) es
  vain_events [] h = tt
  vain_events (e ∷ es) h = ((on_run e.late e.answer h.0.0, on_seek e.late e.answer h.0.1), vain_events es h.1)

pub only_in_vain : {F : Type 0} (m : Model F) → Laws m → OverHistories m OnlyInVain
only_in_vain m l N ok es s h = vain_events N es ((promises m l).promised N ok es s h).conflicts_right

-- ---- bring

-- A row that gives another refusal does not apply where the answer is a kept conflict.
row_passed : (r : Row) (rs : List Row) (i : ℕ) → (number_of r.refusal ≡ 7 → ⊥) → first_row (r ∷ rs) ≡ Some (kept_conflict i) → first_row rs ≡ Some (kept_conflict i)
row_passed r rs i other e =
    test_cases {P = first_row rs ≡ Some (kept_conflict i)} r.applies
    (λ p. let some : Some r.refusal ≡ Some (kept_conflict i) = sym (cond-true r.applies (Some r.refusal) (first_row rs) p) ∙ e in let same : r.refusal ≡ kept_conflict i = cc in absurd (other (ap number_of same)))
    (λ p. sym (cond-false r.applies (Some r.refusal) (first_row rs) p) ∙ e)

-- The d-th of some kept conflicts is the first within ps.
pub record First (ps : Premises) (ks : List Premises) (d : ℕ) : Type 0 where
  pub conflict_is : Premises
  pub there : slice_get ks d ≡ Some conflict_is
  pub lies : within conflict_is ps ≡ true
  pub not-before : (j : ℕ) (r : Premises) → j < d → slice_get ks j ≡ Some r → within r ps ≡ false

some_first : (k r : Premises) (ps : Premises) → Some k ≡ Some r → within k ps ≡ false → within r ps ≡ false
some_first k r ps e h = let same : k ≡ r = cc in subst (λ z. within z ps ≡ false) same h

kept_rows-first : (n : ℕ) (ps : Premises) (ks : List Premises) (i : ℕ) → first_row (kept_rows n ps ks) ≡ Some (kept_conflict i) → (d : ℕ) × (i ≡ n + d) × First ps ks d
kept_rows-first n ps [] i e = none_some (kept_conflict i) e
kept_rows-first n ps (k ∷ ks) i e =
    test_cases {P = (d : ℕ) × (i ≡ n + d) × First ps (k ∷ ks) d} (within k ps)
    (λ p.
    let some : Some (kept_conflict n) ≡ Some (kept_conflict i) = sym (cond-true (within k ps) (Some (kept_conflict n)) (first_row (kept_rows (suc n) ps ks)) p) ∙ e in
    let same : n ≡ i = cc in
    (0, omega arith, record { conflict_is = k; there = refl; lies = p; not-before = λ j r lt _. absurd (omega arith) }))
    (λ p.
    let r = kept_rows-first (suc n) ps ks i (sym (cond-false (within k ps) (Some (kept_conflict n)) (first_row (kept_rows (suc n) ps ks)) p) ∙ e) in
    let q = r.1 in
    (suc r.0, omega arith, later k ps ks r.0 p r.2))
  where
    later : (k ps : Premises) (ks : List Premises) (d : ℕ) → within k ps ≡ false → First ps ks d → First ps (k ∷ ks) (suc d)
    later k ps ks d off f = record { conflict_is = f.conflict_is; there = f.there; lies = f.lies; not-before = before }
      where
        before : (j : ℕ) (r : Premises) → j < suc d → slice_get (k ∷ ks) j ≡ Some r → within r ps ≡ false
        before zero r lt e = some_first k r ps e off
        before (suc j) r lt e = f.not-before j r (omega arith) e

pub only_kept : (F : Type 0) → OnlyKept F
unfolding refusal
only_kept F N s p i e =
    let ps = upd s.force p true in
    let ks = kept_rows 0 ps s.kept in
    let e₁ = row_passed (while_open N s) (uncleared N s ∷ absent N s p N.premises ∷ brought N s p ∷ ks) i (λ h. omega arith) e in
    let e₂ = row_passed (uncleared N s) (absent N s p N.premises ∷ brought N s p ∷ ks) i (λ h. omega arith) e₁ in
    let e₃ = row_passed (absent N s p N.premises) (brought N s p ∷ ks) i (λ h. omega arith) e₂ in
    let e₄ = row_passed (brought N s p) ks i (λ h. omega arith) e₃ in
    let r = kept_rows-first 0 ps s.kept i e₄ in
    let same : r.0 ≡ i = let q = r.1 in omega arith in
    let f : First ps s.kept i = subst (First ps s.kept) same r.2 in
    record { conflict = f.conflict_is; is_kept = f.there; lies_within = f.lies; none_before = f.not-before }
