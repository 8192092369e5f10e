-- What holds of a cleared board, and that each step keeps it.
use Rattle.std.proofs.Common.{◌≡◌, ℕ, ◌<◌, true, ltb, length, ℤ, ◌≤ℤ◌, Some, None, Option, sym, refl, subst}
use Rattle.std.specs.List.{slice_get}
use Rattle.std.proofs.lemmas.Bool.{cond_both, ltb-true}
use Rattle.statements.proofs.Tests.{test_clash}
use Rattle.facts.specs.Model.{Model}
use Rattle.facts.specs.Laws.{Laws}
use Rattle.facts.specs.Derived.{none}
use Rattle.facts.proofs.Order.{none_no}
use Rattle.plan.specs.Placements.{Placement, Placed, Premises, owned_by, InForce, Meets}
use Rattle.plan.specs.declared.constraint.Constraint.{Constraint}
use Rattle.telling.specs.Reasons.{premise, guess, Reasons, Among, premises_only}
use Rattle.telling.specs.Tables.{Table, changed}
use Rattle.telling.specs.Firing.{fired}
use Rattle.telling.specs.Stable.{Stable, AboveBy, LiesBy}
use Rattle.telling.proofs.Fits.{Fits, fired-fits}
use Rattle.telling.proofs.PlacementCover.{loses_none}
use Rattle.telling.proofs.StableCover.{tells_no_more}
use Rattle.calls.specs.Networks.{Net, Planned, in_force, NoneMeets}
use Rattle.calls.specs.Boards.{Board, without}
use Rattle.calls.specs.Running.{premises_of, after_taken, after_step}
use Rattle.calls.specs.Trails.{Trail, guesses, guess_at}
use Rattle.calls.specs.Searching.{NoGuess}
use Rattle.laws.proofs.Numbered.{all_nth, nth_cases, in_force-holds, meets_at}
use Rattle.laws.proofs.Calms.{Calmed, after_step_calmed}
use Rattle.laws.proofs.Counts.{woken_bounded, without_member}

-- The reasons at hand: premises in force and open guesses.
abbrev pub at_hand : Premises → Trail → Reasons
at_hand force t (premise p) = force p
at_hand force t (guess g) = ltb g (guesses t)

-- The placement does what a guess says: the cell is at most its number.
abbrev pub MeetsGuess : Placement → Option (ℕ × ℤ) → Type 0
MeetsGuess v None = ⊥
MeetsGuess v (Some e) = v e.0 ≤ℤ e.1

-- The placement meets the premises among the reasons, and does what each guess among them says.
pub record MeetsReasons (N : Net) (v : Placement) (t : Trail) (r : Reasons) : Type 0 where
  pub premises_met : Meets v (premises_of r) N.constraints
  pub guesses_met : (g : ℕ) → r (guess g) ≡ true → MeetsGuess v (guess_at g t)

-- Where the premises that own a constraint are among r, it is in force under those of r.
pub owners_among : (r : Reasons) (k : Constraint) → Among (premises_only (owned_by k.owner)) r → InForce (premises_of r) k
owners_among r k h p o = h (premise p) o

module _ {F : Type 0} (m : Model F) (l : Laws m) (N : Net) where
  -- Every stable table tells at least as much as each cell whose reasons are premises in force for it.
  abbrev pub Tabled : Table F → Type 0
  Tabled T = (s : Premises) (φ : ℕ → F) → Stable m N.constraints s φ → AboveBy m (premises_only s) φ T

  pub after_taken_tabled : (force : Premises) (j : ℕ) (T : Table F) → Tabled T → Tabled (after_taken m N force (slice_get N.constraints j) T)
  after_taken_tabled force j T ok =
      nth_cases {P = Tabled (after_taken m N force (slice_get N.constraints j) T)} (slice_get N.constraints j)
      (λ e. subst (λ z. Tabled (after_taken m N force z T)) (sym e) ok)
      (λ k e. subst (λ z. Tabled (after_taken m N force z T)) (sym e)
      (cond_both (in_force force k) (fired m k T) T Tabled
      (λ f s φ st. all_nth (λ c. AboveBy m (premises_only s) φ (fired m c T)) N.constraints j k ((tells_no_more m l).above_by_reasons N.constraints s φ st T (ok s φ st)) e)
      (λ f. ok)))

  module _ (Sort : Placement → Type 0) (placed : (v : Placement) → Sort v → Placed v) where
    -- Every placement of the sort lies within each cell whose reasons it meets.
    abbrev pub Lying : Trail → Table F → Type 0
    Lying t T = (v : Placement) → Sort v → (r : Reasons) → MeetsReasons N v t r → LiesBy m r v T

    -- What holds of a cleared board with these premises in force and this trail.
    pub record Live (force : Premises) (t : Trail) (b : Board F) : Type 0 where
      pub fits : Fits m l (at_hand force t) b.table
      pub bounded : (j : ℕ) → b.waits j ≡ true → j < length N.constraints
      pub calmed : Calmed m l N force b
      pub lying : Lying t b.table

    fired_lying : (t : Trail) (j : ℕ) (k : Constraint) → slice_get N.constraints j ≡ Some k → (T : Table F) → Lying t T → Lying t (fired m k T)
    fired_lying t j k at T ok v P r met =
        (loses_none m l).lies_by_reasons k v (placed v P) r (λ h. meets_at v (premises_of r) N.constraints j k met.premises_met at (owners_among r k h)) T (ok v P r met)

    owners_scoped : Planned N → (force : Premises) (t : Trail) (j : ℕ) (k : Constraint) → slice_get N.constraints j ≡ Some k → in_force force k ≡ true → Among (premises_only (owned_by k.owner)) (at_hand force t)
    owners_scoped ok force t j k at e (premise p) h = in_force-holds N ok force j k at e p h
    owners_scoped ok force t j k at e (guess g) h = test_clash h refl

    pub after_step_live : Planned N → (force : Premises) (t : Trail) (j : ℕ) (b : Board F) → Live force t b → Live force t (after_step m N force j b)
    unfolding after_step
    after_step_live ok force t j b h =
        let T = b.table in
        let o = slice_get N.constraints j in
        record {
          fits =
              nth_cases {P = Fits m l (at_hand force t) (after_taken m N force o T)} o
              (λ e. subst (λ z. Fits m l (at_hand force t) (after_taken m N force z T)) (sym e) h.fits)
              (λ k e. subst (λ z. Fits m l (at_hand force t) (after_taken m N force z T)) (sym e)
              (cond_both (in_force force k) (fired m k T) T (Fits m l (at_hand force t))
              (λ f. fired-fits m l (at_hand force t) k T (owners_scoped ok force t j k e f) h.fits) (λ f. h.fits)));
          bounded = woken_bounded N force (changed m T (after_taken m N force o T)) (without j b.waits) (λ i e. h.bounded i (without_member j i b.waits e));
          calmed = after_step_calmed m l N force j b h.calmed;
          lying =
              nth_cases {P = Lying t (after_taken m N force o T)} o
              (λ e. subst (λ z. Lying t (after_taken m N force z T)) (sym e) h.lying)
              (λ k e. subst (λ z. Lying t (after_taken m N force z T)) (sym e)
              (cond_both (in_force force k) (fired m k T) T (Lying t) (λ f. fired_lying t j k e T h.lying) (λ f. h.lying)));
        }

    -- No placement meets the premises of a cell in conflict whose reasons hold no open guess.
    pub none_meets : (force : Premises) (t : Trail) (b : Board F) → Live force t b → (x : ℕ) → none m (b.table x).fact ≡ true → NoGuess t (b.table x).reasons → NoneMeets Sort N (premises_of (b.table x).reasons)
    none_meets force t b h x dead free v P meets =
        let r = (b.table x).reasons in
        test_clash dead
        (none_no m l (b.table x).fact (v x)
        (h.lying v P r (record { premises_met = meets; guesses_met = λ g e. test_clash e (free g (ltb-true g (guesses t) ((h.fits x).scope (guess g) e))) }) x (λ g e. e)))

    -- The premises of a cell are in force.
    pub reasons-in_force : (force : Premises) (t : Trail) (b : Board F) → Live force t b → (x p : ℕ) → premises_of (b.table x).reasons p ≡ true → force p ≡ true
    reasons-in_force force t b h x p e = (h.fits x).scope (premise p) e
