-- Firing keeps facts tidy, and brings no reasons but the constraint's premises.
use Rattle.std.proofs.Common.{◌≡◌, ℕ, cond, List, [], ◌∷◌, refl, ⊎_elim}
use Rattle.std.proofs.lemmas.Bool.{cond_both, or_cases}
use Rattle.statements.proofs.Tests.{test_clash}
use Rattle.facts.specs.Model.{Model}
use Rattle.facts.specs.Laws.{Laws}
use Rattle.facts.specs.Derived.{tidy, dead, told}
use Rattle.facts.proofs.TidyLaws.{told-tidy, start_tidy}
use Rattle.plan.specs.Forms.{named}
use Rattle.plan.specs.Placements.{Premises, owned_by}
use Rattle.plan.specs.declared.constraint.Constraint.{Constraint}
use Rattle.forms.specs.Tells.{tells, reads}
use Rattle.forms.specs.declared.tell.Tell.{Tell}
use Rattle.telling.specs.Reasons.{Reasons, Among, together, premises_only}
use Rattle.telling.specs.Tables.{Cell, Table, facts, reasons_of, start_cell}
use Rattle.telling.specs.Telling.{is_made, said_fact, tell_reasons, told_cell, after_told, after_tell}
use Rattle.telling.specs.Firing.{after_dead, fired}
use Rattle.telling.proofs.Cases.{upd_cases, all_of}
use Rattle.telling.proofs.Keeps.{TellKeeps, DeadKeeps, fired_keeps}

module _ {F : Type 0} (m : Model F) (l : Laws m) (r : Reasons) where
  -- The cell's fact is its own tidy, and its reasons are among r.
  pub record Fit (c : Cell F) : Type 0 where
    pub tidy : tidy m c.fact ≡ c.fact
    pub scope : Among c.reasons r

  abbrev pub Fits : Table F → Type 0
  Fits T = (x : ℕ) → Fit (T x)

  pub together-among : (s t : Reasons) → Among s r → Among t r → Among (together s t) r
  together-among s t p q g e = ⊎_elim (λ h. p g h) (λ h. q g h) (or_cases (s g) (t g) e)

  pub start_fits : Fit (start_cell m)
  start_fits = record { tidy = start_tidy m l; scope = λ t e. test_clash e refl }

  pub told_cell-fits : (g : F) (s : Reasons) (c : Cell F) → Fit c → Among s r → Fit (told_cell m g s c)
  unfolding told_cell
  told_cell-fits g s c ok new =
      let h = told m g c.fact in
      cond_both (m.equal h c.fact) c (record { fact = h; reasons = cond (m.equal h (tidy m g)) s (together c.reasons s) })
      Fit
      (λ e. ok)
      (λ e. record {
        tidy = told-tidy m l g c.fact;
        scope = cond_both (m.equal h (tidy m g)) s (together c.reasons s) (λ z. Among z r) (λ f. new) (λ f. together-among c.reasons s ok.scope new);
      })

  pub after_told-fits : (x : ℕ) (g : F) (s : Reasons) (T : Table F) → Fits T → Among s r → Fits (after_told m x g s T)
  unfolding after_told
  after_told-fits x g s T ok new y = upd_cases Fit T x (told_cell m g s (T x)) y (λ e. told_cell-fits g s (T x) (ok x) new) (ok y)

  reasons_of-among : (T : Table F) → Fits T → (xs : List ℕ) → Among (reasons_of T xs) r
  reasons_of-among T ok [] t e = test_clash e refl
  reasons_of-among T ok (x ∷ xs) t e = together-among (T x).reasons (reasons_of T xs) (ok x).scope (reasons_of-among T ok xs) t e

  after_tell-fits : (ps : Premises) (t : Tell) (T : Table F) → Among (premises_only ps) r → Fits T → Fits (after_tell m ps t T)
  unfolding after_tell
  after_tell-fits ps t T own ok =
      cond_both (is_made m (facts T) t) (after_told m t.target (said_fact m (facts T) t) (tell_reasons m ps t T) T) T
      Fits
      (λ e. after_told-fits t.target (said_fact m (facts T) t) (tell_reasons m ps t T) T ok (together-among (premises_only ps) (reasons_of T (reads t)) own (reasons_of-among T ok (reads t))))
      (λ e. ok)

  after_dead-fits : (ps : Premises) (ns : List ℕ) (x : ℕ) (T : Table F) → Among (premises_only ps) r → Fits T → Fits (after_dead m ps ns x T)
  unfolding after_dead
  after_dead-fits ps ns x T own ok =
      after_told-fits x (dead m) (together (premises_only ps) (reasons_of T ns)) T ok (together-among (premises_only ps) (reasons_of T ns) own (reasons_of-among T ok ns))

  pub fired-fits : (k : Constraint) (T : Table F) → Among (premises_only (owned_by k.owner)) r → Fits T → Fits (fired m k T)
  fired-fits k T own =
      let ns = named k.form in
      let ps = owned_by k.owner in
      fired_keeps m Fits k
      (all_of (TellKeeps m Fits ps) (λ t U. after_tell-fits ps t U own) (tells k.form))
      (all_of (DeadKeeps m Fits ps ns) (λ x U. after_dead-fits ps ns x U own) ns) T
