-- What firing keeps, whatever the cells are measured against.
use Rattle.std.proofs.Common.{◌≡◌, ℕ, true, cond, List, [], ◌∷◌, sym, subst}
use Rattle.std.specs.List.{AllByRecursion}
use Rattle.std.proofs.lemmas.Bool.{cond_both, or_left, or_right}
use Rattle.facts.specs.Model.{Model}
use Rattle.facts.specs.Laws.{Laws}
use Rattle.facts.specs.Derived.{none, tidy, start, dead, told}
use Rattle.facts.proofs.Order.{none_mono}
use Rattle.plan.specs.Forms.{named}
use Rattle.plan.specs.Placements.{Premises, owned_by}
use Rattle.plan.specs.declared.constraint.Constraint.{Constraint}
use Rattle.forms.specs.Tells.{tells, reads}
use Rattle.forms.specs.declared.tell.Tell.{Tell}
use Rattle.telling.specs.Reasons.{Reasons, Among, together, premises_only}
use Rattle.telling.specs.Tables.{Cell, Table, facts, reasons_of}
use Rattle.telling.specs.Telling.{is_made, said_fact, tell_reasons, told_cell, after_told, after_tell}
use Rattle.telling.specs.Firing.{after_tells, after_dead, after_deads, any_in_conflict, fired}
use Rattle.telling.proofs.Cases.{upd_cases, any_implied, all_of, all_weaker}
use Rattle.telling.proofs.Keeps.{TellKeeps, DeadKeeps, tells_keep, deads_keep}
use Rattle.telling.proofs.Fires.{after_dead_below}

-- What a table is measured against: `Covers x f` says that the fact f of cell x goes no further, and no reasons but those of r count. A stable table gives a cover, and so does a placement.
pub record Cover {F : Type 0} (m : Model F) : Type 1 where
  pub r : Reasons
  pub Covers : ℕ → F → Type 0
  -- The fact of a cell of which nothing is known is covered.
  pub covers_start : (x : ℕ) → Covers x (start m)
  -- What is covered stays so when told what is covered, and when tidy.
  pub covers_told : (x : ℕ) (f g : F) → Covers x f → Covers x g → Covers x (told m g f)
  pub covers_tidy : (x : ℕ) (g : F) → Covers x g → Covers x (tidy m g)

module _ {F : Type 0} (m : Model F) (l : Laws m) (W : Cover m) where
  -- A cell whose reasons count is covered.
  abbrev pub SoundAt : ℕ → Cell F → Type 0
  SoundAt x c = Among c.reasons W.r → W.Covers x c.fact

  abbrev pub Sound : Table F → Type 0
  Sound T = (x : ℕ) → SoundAt x (T x)

  -- A tell that reads covered facts says what is covered.
  abbrev pub FairTell : Tell → Type 0
  FairTell t = (φ : ℕ → F) → AllByRecursion (λ x. W.Covers x (φ x)) (reads t) → is_made m φ t ≡ true → W.Covers t.target (said_fact m φ t)

  -- Among covered facts with a conflict, cell y is covered even as dead.
  abbrev pub FairDead : List ℕ → ℕ → Type 0
  FairDead ns y = (φ : ℕ → F) → AllByRecursion (λ x. W.Covers x (φ x)) ns → any_in_conflict m φ ns ≡ true → W.Covers y (dead m)

  -- Firing the constraint is fair, if its premises count.
  pub record Fair (k : Constraint) : Type 0 where
    pub fair_tells : Among (premises_only (owned_by k.owner)) W.r → AllByRecursion FairTell (tells k.form)
    pub fair_deads : Among (premises_only (owned_by k.owner)) W.r → AllByRecursion (FairDead (named k.form)) (named k.form)

  among_left : (r s : Reasons) → Among (together r s) W.r → Among r W.r
  among_left r s h t e = h t (or_left (r t) (s t) e)

  among_right : (r s : Reasons) → Among (together r s) W.r → Among s W.r
  among_right r s h t e = h t (or_right (r t) (s t) e)

  pub told_cell-sound : (x : ℕ) (g : F) (s : Reasons) (c : Cell F) → SoundAt x c → (Among s W.r → W.Covers x g) → SoundAt x (told_cell m g s c)
  unfolding told_cell
  told_cell-sound x g s c ok new =
      let h = told m g c.fact in
      cond_both (m.equal h c.fact) c (record { fact = h; reasons = cond (m.equal h (tidy m g)) s (together c.reasons s) })
      (SoundAt x)
      (λ e. ok)
      (λ e. cond_both (m.equal h (tidy m g)) s (together c.reasons s)
      (λ (z : Reasons). Among z W.r → W.Covers x h)
      (λ e' held. subst (W.Covers x) (sym ((l.equal_decides h (tidy m g)).0 e')) (W.covers_tidy x g (new held)))
      (λ e' held. W.covers_told x c.fact g (ok (among_left c.reasons s held)) (new (among_right c.reasons s held))))

  -- Cells whose reasons count together are covered each.
  pub reasons_of-sound : (T : Table F) → Sound T → (xs : List ℕ) → Among (reasons_of T xs) W.r → AllByRecursion (λ x. W.Covers x (T x).fact) xs
  reasons_of-sound T ok [] h = tt
  reasons_of-sound T ok (x ∷ xs) h =
      (ok x (among_left (T x).reasons (reasons_of T xs) h), reasons_of-sound T ok xs (among_right (T x).reasons (reasons_of T xs) h))

  pub after_told-sound : (x : ℕ) (g : F) (s : Reasons) (T : Table F) → Sound T → (Among s W.r → W.Covers x g) → Sound (after_told m x g s T)
  unfolding after_told
  after_told-sound x g s T ok new y =
      upd_cases (SoundAt y) T x (told_cell m g s (T x)) y (λ e. subst (λ z. SoundAt z (told_cell m g s (T x))) e (told_cell-sound x g s (T x) (ok x) new)) (ok y)

  after_tell-sound : (ps : Premises) (t : Tell) (T : Table F) → (Among (premises_only ps) W.r → FairTell t) → Sound T → Sound (after_tell m ps t T)
  unfolding after_tell
  after_tell-sound ps t T fair ok =
      let g = said_fact m (facts T) t in
      let s = tell_reasons m ps t T in
      cond_both (is_made m (facts T) t) (after_told m t.target g s T) T
      Sound
      (λ e. after_told-sound t.target g s T ok
      (λ held. fair (among_left (premises_only ps) (reasons_of T (reads t)) held) (facts T)
      (reasons_of-sound T ok (reads t) (among_right (premises_only ps) (reasons_of T (reads t)) held)) e))
      (λ e. ok)

  after_dead-sound : (ps : Premises) (ns : List ℕ) (x : ℕ) (T : Table F) → (Among (premises_only ps) W.r → FairDead ns x) → any_in_conflict m (facts T) ns ≡ true → Sound T → Sound (after_dead m ps ns x T)
  unfolding after_dead
  after_dead-sound ps ns x T fair e ok =
      after_told-sound x (dead m) (together (premises_only ps) (reasons_of T ns)) T ok
      (λ held. fair (among_left (premises_only ps) (reasons_of T ns) held) (facts T) (reasons_of-sound T ok ns (among_right (premises_only ps) (reasons_of T ns) held)) e)

  -- What follows from what holds of all of a list holds of each.
  all_under : {A : Type 0} {H : Type 0} (P : A → Type 0) (xs : List A) → (H → AllByRecursion P xs) → AllByRecursion (λ x. H → P x) xs
  all_under P [] f = tt
  all_under P (x ∷ xs) f = (λ h. (f h).0, all_under P xs (λ h. (f h).1))

  -- A conflict among facts is one among facts that tell more.
  conflict_stays : (ps : Premises) (ns : List ℕ) (x : ℕ) (T : Table F) → any_in_conflict m (facts T) ns ≡ true → any_in_conflict m (facts (after_dead m ps ns x T)) ns ≡ true
  conflict_stays ps ns x T e =
      let T' = after_dead m ps ns x T in
      any_implied (λ y. none m (T y).fact) (λ y. none m (T' y).fact) ns
      (all_of (λ y. none m (T y).fact ≡ true → none m (T' y).fact ≡ true) (λ y. none_mono m l (T' y).fact (T y).fact (after_dead_below m l ps ns x T y)) ns) e

  pub fired-sound : (k : Constraint) → Fair k → (T : Table F) → Sound T → Sound (fired m k T)
  unfolding fired
  fired-sound k fair T ok =
      let ns = named k.form in
      let ps = owned_by k.owner in
      let Clashing = λ (U : Table F). (any_in_conflict m (facts U) ns ≡ true) × Sound U in
      let Held = Among (premises_only ps) W.r in
      cond_both (any_in_conflict m (facts T) ns) (after_deads m ps ns ns T) (after_tells m ps (tells k.form) T)
      Sound
      (λ e. (deads_keep m Clashing ps ns ns
      (all_weaker (λ x. Held → FairDead ns x) (DeadKeeps m Clashing ps ns) (λ x f U c. (conflict_stays ps ns x U c.0, after_dead-sound ps ns x U f c.0 c.1)) ns (all_under (FairDead ns) ns fair.fair_deads)) T (e, ok)).1)
      (λ e. tells_keep m Sound ps (tells k.form)
      (all_weaker (λ t. Held → FairTell t) (TellKeeps m Sound ps) (λ t f U. after_tell-sound ps t U f) (tells k.form) (all_under FairTell (tells k.form) fair.fair_tells)) T ok)
