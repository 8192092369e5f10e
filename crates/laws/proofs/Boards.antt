-- Clear, bring and lift keep what holds of a cleared board.
use Rattle.std.proofs.Common.{◌≡◌, ℕ, ◌<◌, true, false, List, [], length, Some, None, Option, sym, refl, ap, ◌∙◌, subst, ⊎_elim}
use Rattle.std.specs.List.{slice_get}
use Rattle.std.proofs.lemmas.Option.{slice_get_within}
use Rattle.std.proofs.lemmas.Bool.{cond_both, or_cases, or_parts}
use Rattle.statements.proofs.Tests.{test_clash}
use Rattle.facts.specs.Model.{Model, Tells}
use Rattle.facts.specs.Laws.{Laws}
use Rattle.facts.proofs.Order.{start-allows}
use Rattle.facts.proofs.TidyLaws.{tidy_start}
use Rattle.plan.specs.Placements.{Placement, Placed, Premises, owned_by}
use Rattle.plan.specs.declared.constraint.Constraint.{Constraint}
use Rattle.telling.specs.Reasons.{premise, guess, Among, premises_only}
use Rattle.telling.specs.Tables.{Cell, upd, start_cell}
use Rattle.telling.proofs.Cases.{upd_cases}
use Rattle.telling.proofs.Fits.{start_fits}
use Rattle.calls.specs.Networks.{Net, Planned, in_force}
use Rattle.calls.specs.Boards.{Board, reset}
use Rattle.calls.specs.Trails.{Trail}
use Rattle.calls.specs.Calls.{standing, belongs, clear_board, bring_board, resting, lift_board}
use Rattle.laws.proofs.Numbered.{in_force-holds, in_force_made}
use Rattle.laws.proofs.Calms.{woken_calmed}
use Rattle.laws.proofs.Counts.{woken_bounded}
use Rattle.laws.proofs.Live.{at_hand, Tabled, Live}
use Rattle.laws.proofs.Jumps.{reset_same, reset-fits, reset_lies}

standing_below : (force : Premises) (ks : List Constraint) (j : ℕ) (o : Option Constraint) → slice_get ks j ≡ o → standing force o ≡ true → j < length ks
standing_below force ks j None e h = test_clash h refl
standing_below force ks j (Some k) e h = slice_get_within ks j k e

belongs_below : (p : ℕ) (ks : List Constraint) (j : ℕ) (o : Option Constraint) → slice_get ks j ≡ o → belongs p o ≡ true → j < length ks
belongs_below p ks j None e h = test_clash h refl
belongs_below p ks j (Some k) e h = slice_get_within ks j k e

module _ {F : Type 0} (m : Model F) (l : Laws m) (N : Net) (ok : Planned N) (Sort : Placement → Type 0) (placed : (v : Placement) → Sort v → Placed v) where
  -- ---- clear

  pub clear_live : (force : Premises) → Live m l N Sort placed force [] (clear_board m N force)
  unfolding clear_board
  clear_live force = record {
    fits = λ x. start_fits m l (at_hand force []);
    bounded = λ j e. standing_below force N.constraints j (slice_get N.constraints j) refl e;
    calmed = λ j k at inf e. test_clash (ap (standing force) at ∙ inf) e;
    lying = λ v P r met x h. start-allows m l (v x) (placed v P x);
  }

  pub clear_tabled : (force : Premises) → Tabled m l N (clear_board m N force).table
  unfolding clear_board
  clear_tabled force s φ st x h = tidy_start m l (φ x) (st.tidy x)

  -- ---- bring

  -- A constraint that is in force with p and not owned by it was in force without.
  bring-before : (force : Premises) (p j : ℕ) (k : Constraint) → slice_get N.constraints j ≡ Some k → in_force (upd force p true) k ≡ true → owned_by k.owner p ≡ false → in_force force k ≡ true
  bring-before force p j k at h free =
      in_force_made force k
      (λ q o. upd_cases (λ z. z ≡ true → force q ≡ true) force p true q
      (λ pq e. test_clash (subst (λ z. owned_by k.owner z ≡ true) (sym pq) o) free) (λ e. e)
      (in_force-holds N ok (upd force p true) j k at h q o))

  bring_scope : (force : Premises) (p : ℕ) (t : Trail) → Among (at_hand force t) (at_hand (upd force p true) t)
  bring_scope force p t (premise q) h = upd_cases (λ z. z ≡ true) force p true q (λ e. refl) h
  bring_scope force p t (guess g) h = h

  pub bring_live : (force : Premises) (p : ℕ) (b : Board F) → Live m l N Sort placed force [] b → Live m l N Sort placed (upd force p true) [] (bring_board m N p b)
  unfolding bring_board
  bring_live force p b h = record {
    fits = λ x. record { tidy = (h.fits x).tidy; scope = λ g e. bring_scope force p [] g ((h.fits x).scope g e) };
    bounded = λ j e. ⊎_elim (h.bounded j) (belongs_below p N.constraints j (slice_get N.constraints j) refl) (or_cases (b.waits j) (belongs p (slice_get N.constraints j)) e);
    calmed = λ j k at inf e.
        let r = or_parts (b.waits j) (belongs p (slice_get N.constraints j)) e in
        h.calmed j k at (bring-before force p j k at inf (sym (ap (belongs p) at) ∙ r.1)) r.0;
    lying = h.lying;
  }

  pub bring_tabled : (p : ℕ) (b : Board F) → Tabled m l N b.table → Tabled m l N (bring_board m N p b).table
  unfolding bring_board
  bring_tabled p b tb = tb

  -- ---- lift

  lift-before : (force : Premises) (p j : ℕ) (k : Constraint) → slice_get N.constraints j ≡ Some k → in_force (upd force p false) k ≡ true → in_force force k ≡ true
  lift-before force p j k at h =
      in_force_made force k
      (λ q o. upd_cases (λ z. z ≡ true → force q ≡ true) force p false q (λ pq e. test_clash e refl) (λ e. e) (in_force-holds N ok (upd force p false) j k at h q o))

  lift_scope : (force : Premises) (p : ℕ) (c : Cell F) → Among c.reasons (at_hand force []) → c.reasons (premise p) ≡ false → Among c.reasons (at_hand (upd force p false) [])
  lift_scope force p c h free (premise q) k =
      upd_cases (λ z. z ≡ true) force p false q (λ e. test_clash k (subst (λ z. c.reasons (premise z) ≡ false) e free)) (h (premise q) k)
  lift_scope force p c h free (guess g) k = h (guess g) k

  pub lift_live : (force : Premises) (p : ℕ) (b : Board F) → Live m l N Sort placed force [] b → Live m l N Sort placed (upd force p false) [] (lift_board m N force p b)
  unfolding lift_board
  lift_live force p b h =
      let T = b.table in
      let back = resting m N p T in
      let after = upd force p false in
      record {
        fits = reset-fits m l N (at_hand force []) (at_hand after []) back T h.fits (λ x e. lift_scope force p (T x) (h.fits x).scope e);
        bounded = woken_bounded N after back b.waits h.bounded;
        calmed =
            woken_calmed m l N after back b.waits T (reset m back T) (reset_same m l N back T)
            (λ j k at inf e. h.calmed j k at (lift-before force p j k at inf) e);
        lying = λ v P r met. reset_lies m l N back T r v (placed v P) (λ x e k. h.lying v P r met x k);
      }

  pub lift_tabled : (force : Premises) (p : ℕ) (b : Board F) → Tabled m l N b.table → Tabled m l N (lift_board m N force p b).table
  unfolding lift_board
  lift_tabled force p b tb s φ st x =
      cond_both (resting m N p b.table x) (start_cell m) (b.table x) (λ (c : Cell F). Among c.reasons (premises_only s) → Tells m (φ x) c.fact)
      (λ e h. tidy_start m l (φ x) (st.tidy x))
      (λ e h. tb s φ st x h)
