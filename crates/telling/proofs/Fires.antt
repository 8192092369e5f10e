-- Firing and facts: facts only narrow, and nothing changes exactly where no tell has anything new to say.
use Rattle.std.proofs.Common.{◌≡◌, ℕ, true, false, ◌⊎◌, List, [], ◌∷◌, sym, refl, ap, ◌∙◌, subst, inl, inr, ⊎_elim}
use mathlib.Core.Path.{fun_ext}
use Rattle.std.specs.List.{AllByRecursion}
use Rattle.std.proofs.lemmas.Bool.{cond_both, cond-true, cond-false}
use Rattle.statements.proofs.Tests.{test_clash, test_cases}
use Rattle.facts.specs.Model.{Model, Tells}
use Rattle.facts.specs.Laws.{Laws}
use Rattle.facts.specs.Derived.{none, dead, told}
use Rattle.facts.proofs.Order.{tells-refl, tells_trans, tells_antisym, tells-dead}
use Rattle.plan.specs.Forms.{named}
use Rattle.plan.specs.Placements.{Premises, owned_by}
use Rattle.plan.specs.declared.constraint.Constraint.{Constraint}
use Rattle.plan.specs.declared.constraint.Form.{Form}
use Rattle.plan.specs.declared.constraint.Form.TheVariants.{State, Sum, Gap, Apart}
use Rattle.forms.specs.Tells.{tells}
use Rattle.forms.specs.declared.tell.Tell.{Tell}
use Rattle.telling.specs.Reasons.{Reasons, together, premises_only}
use Rattle.telling.specs.Tables.{Cell, Table, facts, reasons_of}
use Rattle.telling.specs.Telling.{is_made, said_fact, tell_reasons, told_cell, after_told, after_tell}
use Rattle.telling.specs.Firing.{after_tells, after_dead, after_deads, any_in_conflict, fired}
use Rattle.telling.proofs.Cases.{upd_cases, upd-here, any_none, all_of}
use Rattle.telling.proofs.Keeps.{TellKeeps, DeadKeeps, tells_keep, deads_keep}
use Rattle.telling.proofs.Tells.{told-dead, told_cell-fact, told_cell-tells}

-- What holds of each cell that a form names holds of each target of its tells.
pub tells_targets : (P : ℕ → Type 0) (q : Form) → AllByRecursion P (named q) → AllByRecursion (λ t. P t.target) (tells q)
tells_targets P (State c s) h = (h.0, (h.0, tt))
tells_targets P (Sum a b c) h = (h.1.1.0, (h.0, (h.1.0, tt)))
tells_targets P (Gap a d b) h = (h.1.0, (h.0, tt))
tells_targets P (Apart a d b e) h = (h.0, (h.1.0, (h.1.0, (h.0, tt))))

module _ {F : Type 0} (m : Model F) where
  -- The tell has nothing new to say of these facts.
  abbrev pub CalmTell : (ℕ → F) → Tell → Type 0
  CalmTell φ t = is_made m φ t ≡ true → told m (said_fact m φ t) (φ t.target) ≡ φ t.target

  -- The form has nothing new to say of these facts.
  abbrev pub Calm : (ℕ → F) → Form → Type 0
  Calm φ q =
      ((any_in_conflict m φ (named q) ≡ true) × AllByRecursion (λ x. φ x ≡ dead m) (named q))
      ⊎ ((any_in_conflict m φ (named q) ≡ false) × AllByRecursion (CalmTell φ) (tells q))

  -- Each fact of φ tells at least that of ψ.
  abbrev pub Below : (φ ψ : ℕ → F) → Type 0
  Below φ ψ = (x : ℕ) → Tells m (φ x) (ψ x)

module _ {F : Type 0} (m : Model F) (l : Laws m) where
  pub below_refl : (φ : ℕ → F) → Below m φ φ
  below_refl φ x = tells-refl m l (φ x)

  pub below_trans : (φ ψ χ : ℕ → F) → Below m φ ψ → Below m ψ χ → Below m φ χ
  below_trans φ ψ χ p q x = tells_trans m l (φ x) (ψ x) (χ x) (p x) (q x)

  pub below_antisym : (φ ψ : ℕ → F) → Below m φ ψ → Below m ψ φ → φ ≡ ψ
  below_antisym φ ψ p q = fun_ext (λ x. tells_antisym m l (φ x) (ψ x) (p x) (q x))

  -- ---- one cell told

  pub after_told_below : (x : ℕ) (g : F) (s : Reasons) (T : Table F) → Below m (facts (after_told m x g s T)) (facts T)
  unfolding after_told
  after_told_below x g s T y =
      upd_cases (λ (c : Cell F). Tells m c.fact (T y).fact) T x (told_cell m g s (T x)) y
      (λ e. subst (λ z. Tells m (told_cell m g s (T x)).fact (T z).fact) e (told_cell-tells m l g s (T x)))
      (tells-refl m l (T y).fact)

  pub after_told-fact : (x : ℕ) (g : F) (s : Reasons) (T : Table F) → (after_told m x g s T x).fact ≡ told m g (T x).fact
  unfolding after_told
  after_told-fact x g s T = ap (λ (c : Cell F). c.fact) (upd-here T x (told_cell m g s (T x))) ∙ told_cell-fact m l g s (T x)

  pub after_told_calm : (x : ℕ) (g : F) (s : Reasons) (T : Table F) → told m g (T x).fact ≡ (T x).fact → facts (after_told m x g s T) ≡ facts T
  unfolding after_told
  after_told_calm x g s T h =
      fun_ext λ y. upd_cases (λ (c : Cell F). c.fact ≡ (T y).fact) T x (told_cell m g s (T x)) y
      (λ e. subst (λ z. (told_cell m g s (T x)).fact ≡ (T z).fact) e (told_cell-fact m l g s (T x) ∙ h))
      refl

  -- ---- one tell

  pub after_tell_below : (ps : Premises) (t : Tell) (T : Table F) → Below m (facts (after_tell m ps t T)) (facts T)
  unfolding after_tell
  after_tell_below ps t T =
      cond_both (is_made m (facts T) t) (after_told m t.target (said_fact m (facts T) t) (tell_reasons m ps t T) T) T
      (λ z. Below m (facts z) (facts T))
      (λ e. after_told_below t.target (said_fact m (facts T) t) (tell_reasons m ps t T) T)
      (λ e. below_refl (facts T))

  -- A tell that is made leaves its target as it was told.
  pub after_tell-fact : (ps : Premises) (t : Tell) (T : Table F) → is_made m (facts T) t ≡ true → (after_tell m ps t T t.target).fact ≡ told m (said_fact m (facts T) t) (T t.target).fact
  unfolding after_tell
  after_tell-fact ps t T e =
      ap (λ (z : Table F). (z t.target).fact) (cond-true (is_made m (facts T) t) (after_told m t.target (said_fact m (facts T) t) (tell_reasons m ps t T) T) T e)
      ∙ after_told-fact t.target (said_fact m (facts T) t) (tell_reasons m ps t T) T

  pub after_tell_calm : (ps : Premises) (t : Tell) (T : Table F) → CalmTell m (facts T) t → facts (after_tell m ps t T) ≡ facts T
  unfolding after_tell
  after_tell_calm ps t T h =
      cond_both (is_made m (facts T) t) (after_told m t.target (said_fact m (facts T) t) (tell_reasons m ps t T) T) T
      (λ z. facts z ≡ facts T)
      (λ e. after_told_calm t.target (said_fact m (facts T) t) (tell_reasons m ps t T) T (h e))
      (λ e. refl)

  -- ---- tells in their order

  pub after_tells_below : (ps : Premises) (ts : List Tell) (T : Table F) → Below m (facts (after_tells m ps ts T)) (facts T)
  after_tells_below ps ts T =
      let Kept = λ (U : Table F). Below m (facts U) (facts T) in
      tells_keep m Kept ps ts (all_of (TellKeeps m Kept ps) (λ t U b. below_trans (facts (after_tell m ps t U)) (facts U) (facts T) (after_tell_below ps t U) b) ts) T (below_refl (facts T))

  -- Tells that changed nothing had nothing new to say.
  pub after_tells-still : (ps : Premises) (ts : List Tell) (T : Table F) → AllByRecursion (λ t. none m (T t.target).fact ≡ false) ts → facts (after_tells m ps ts T) ≡ facts T → AllByRecursion (CalmTell m (facts T)) ts
  unfolding after_tells
  after_tells-still ps [] T ne e = tt
  after_tells-still ps (t ∷ ts) T ne e =
      let T' = after_tell m ps t T in
      let R = after_tells m ps ts T' in
      let b = none m (T' t.target).fact in
      let G : Type 0 = AllByRecursion (CalmTell m (facts T)) (t ∷ ts) in
      test_cases {P = G} b
      (λ h.
      let same : facts T' ≡ facts T = ap facts (sym (cond-true b T' R h)) ∙ e in
      test_clash (subst (λ (φ : ℕ → F). none m (φ t.target) ≡ true) same h) ne.0)
      (λ h.
      let fin : facts R ≡ facts T = ap facts (sym (cond-false b T' R h)) ∙ e in
      let same : facts T' ≡ facts T =
      below_antisym (facts T') (facts T) (after_tell_below ps t T)
      (λ x. subst (λ (φ : ℕ → F). Tells m (φ x) (T' x).fact) fin (after_tells_below ps ts T' x)) in (
        λ op. sym (after_tell-fact ps t T op) ∙ ap (λ (φ : ℕ → F). φ t.target) same,
        subst (λ φ. AllByRecursion (CalmTell m φ) ts) same
            (after_tells-still ps ts T'
            (subst (λ (φ : ℕ → F). AllByRecursion (λ u. none m (φ u.target) ≡ false) ts) (sym same) ne.1)
            (fin ∙ sym same)),
      ))

  pub after_tells_calm : (ps : Premises) (ts : List Tell) (T : Table F) → AllByRecursion (CalmTell m (facts T)) ts → facts (after_tells m ps ts T) ≡ facts T
  unfolding after_tells
  after_tells_calm ps [] T h = refl
  after_tells_calm ps (t ∷ ts) T h =
      let T' = after_tell m ps t T in
      let same : facts T' ≡ facts T = after_tell_calm ps t T h.0 in
      cond_both (none m (T' t.target).fact) T' (after_tells m ps ts T')
      (λ z. facts z ≡ facts T)
      (λ e. same)
      (λ e. after_tells_calm ps ts T' (subst (λ φ. AllByRecursion (CalmTell m φ) ts) (sym same) h.1) ∙ same)

  -- ---- cells told that no number is allowed

  pub after_dead_below : (ps : Premises) (ns : List ℕ) (x : ℕ) (T : Table F) → Below m (facts (after_dead m ps ns x T)) (facts T)
  unfolding after_dead
  after_dead_below ps ns x T = after_told_below x (dead m) (together (premises_only ps) (reasons_of T ns)) T

  after_dead-fact : (ps : Premises) (ns : List ℕ) (x : ℕ) (T : Table F) → (after_dead m ps ns x T x).fact ≡ dead m
  unfolding after_dead
  after_dead-fact ps ns x T = after_told-fact x (dead m) (together (premises_only ps) (reasons_of T ns)) T ∙ told-dead m l (T x).fact

  after_dead_calm : (ps : Premises) (ns : List ℕ) (x : ℕ) (T : Table F) → (T x).fact ≡ dead m → facts (after_dead m ps ns x T) ≡ facts T
  unfolding after_dead
  after_dead_calm ps ns x T e = after_told_calm x (dead m) (together (premises_only ps) (reasons_of T ns)) T (told-dead m l (T x).fact ∙ sym e)

  pub after_deads_below : (ps : Premises) (ns xs : List ℕ) (T : Table F) → Below m (facts (after_deads m ps ns xs T)) (facts T)
  after_deads_below ps ns xs T =
      let Kept = λ (U : Table F). Below m (facts U) (facts T) in
      deads_keep m Kept ps ns xs (all_of (DeadKeeps m Kept ps ns) (λ x U b. below_trans (facts (after_dead m ps ns x U)) (facts U) (facts T) (after_dead_below ps ns x U) b) xs) T (below_refl (facts T))

  pub after_deads-still : (ps : Premises) (ns xs : List ℕ) (T : Table F) → facts (after_deads m ps ns xs T) ≡ facts T → AllByRecursion (λ x. (T x).fact ≡ dead m) xs
  unfolding after_deads
  after_deads-still ps ns [] T e = tt
  after_deads-still ps ns (x ∷ xs) T e =
      let T' = after_dead m ps ns x T in
      let was : (T x).fact ≡ dead m =
      tells-dead m l (T x).fact (subst (λ (φ : ℕ → F). Tells m (φ x) (dead m)) e (subst (λ z. Tells m (after_deads m ps ns xs T' x).fact z) (after_dead-fact ps ns x T) (after_deads_below ps ns xs T' x))) in
      let same : facts T' ≡ facts T = after_dead_calm ps ns x T was in
      (was, subst (λ (φ : ℕ → F). AllByRecursion (λ y. φ y ≡ dead m) xs) same (after_deads-still ps ns xs T' (e ∙ sym same)))

  pub after_deads_calm : (ps : Premises) (ns xs : List ℕ) (T : Table F) → AllByRecursion (λ x. (T x).fact ≡ dead m) xs → facts (after_deads m ps ns xs T) ≡ facts T
  unfolding after_deads
  after_deads_calm ps ns [] T h = refl
  after_deads_calm ps ns (x ∷ xs) T h =
      let T' = after_dead m ps ns x T in
      let same : facts T' ≡ facts T = after_dead_calm ps ns x T h.0 in
      after_deads_calm ps ns xs T' (subst (λ (φ : ℕ → F). AllByRecursion (λ y. φ y ≡ dead m) xs) (sym same) h.1) ∙ same

  -- ---- firing

  pub fired_below : (k : Constraint) (T : Table F) → Below m (facts (fired m k T)) (facts T)
  unfolding fired
  fired_below k T =
      let ns = named k.form in
      let ps = owned_by k.owner in
      cond_both (any_in_conflict m (facts T) ns) (after_deads m ps ns ns T) (after_tells m ps (tells k.form) T)
      (λ z. Below m (facts z) (facts T))
      (λ e. after_deads_below ps ns ns T)
      (λ e. after_tells_below ps (tells k.form) T)

  -- A firing that changed nothing had nothing new to say.
  pub fired-still : (k : Constraint) (T : Table F) → facts (fired m k T) ≡ facts T → Calm m (facts T) k.form
  unfolding fired
  fired-still k T e =
      let q = k.form in
      let ps = owned_by k.owner in
      let b = any_in_conflict m (facts T) (named q) in
      let x = after_deads m ps (named q) (named q) T in
      let y = after_tells m ps (tells q) T in
      test_cases {P = Calm m (facts T) q} b
      (λ h. inl (h, after_deads-still ps (named q) (named q) T (ap facts (sym (cond-true b x y h)) ∙ e)))
      (λ h. inr (
        h,
        after_tells-still ps (tells q) T
            (tells_targets (λ c. none m (T c).fact ≡ false) q (any_none (λ c. none m (T c).fact) (named q) h))
            (ap facts (sym (cond-false b x y h)) ∙ e),
      ))

  pub fired_calm : (k : Constraint) (T : Table F) → Calm m (facts T) k.form → facts (fired m k T) ≡ facts T
  unfolding fired
  fired_calm k T h =
      let q = k.form in
      let ps = owned_by k.owner in
      let b = any_in_conflict m (facts T) (named q) in
      let x = after_deads m ps (named q) (named q) T in
      let y = after_tells m ps (tells q) T in
      ⊎_elim
      (λ p. ap facts (cond-true b x y p.0) ∙ after_deads_calm ps (named q) (named q) T p.1)
      (λ p. ap facts (cond-false b x y p.0) ∙ after_tells_calm ps (tells q) T p.1)
      h
