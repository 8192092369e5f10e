-- Which cells a firing changes.
use Rattle.std.proofs.Common.{◌≡◌, ℕ, Bool, true, false, cond, not, ◌||◌, eqb, List, [], ◌∷◌, ◌++◌, sym, refl, ap, ◌∙◌, subst, ap₂, ⊎_elim}
use mathlib.Core.Path.{fun_ext}
use Rattle.std.proofs.Math.Bool.{or_assoc}
use Rattle.std.proofs.lemmas.Bool.{cond_both, cond-false, cases_eq, eq-eqb, ne_eqb, or_left, false_from_ne_true}
use Rattle.statements.proofs.Tests.{test_clash, test_cases}
use Rattle.facts.specs.Model.{Model, Tells}
use Rattle.facts.specs.Laws.{Laws}
use Rattle.facts.specs.Derived.{none, dead, told}
use Rattle.facts.proofs.Order.{tells_antisym}
use Rattle.plan.specs.Forms.{named}
use Rattle.plan.specs.Placements.{Premises, owned_by}
use Rattle.plan.specs.declared.constraint.Constraint.{Constraint}
use Rattle.forms.specs.Tells.{tells, condition_reads}
use Rattle.forms.specs.declared.tell.Tell.{Tell}
use Rattle.sets.specs.Members.{among}
use Rattle.telling.specs.Reasons.{Reasons, together, premises_only}
use Rattle.telling.specs.Tables.{Cell, Table, facts, reasons_of, changed}
use Rattle.telling.specs.Telling.{is_made, said_fact, tell_reasons, told_cell, after_told, after_tell}
use Rattle.telling.specs.Firing.{after_tells, after_dead, after_deads, any_in_conflict, fired, if_changed, tells_change, deads_change, fired_change}
use Rattle.telling.specs.Theorems.{GoesSo}
use Rattle.telling.proofs.Cases.{all_themselves, all_of, all_weaker}
use Rattle.telling.proofs.Keeps.{TellKeeps, DeadKeeps, fired_keeps}
use Rattle.telling.proofs.Tells.{told_cell-fact}
use Rattle.telling.proofs.Fires.{Below, tells_targets, after_tell_below, after_dead_below}
use Rattle.telling.proofs.StableCover.{is_made_mono}

among_append : (x : ℕ) (xs ys : List ℕ) → among x (xs ++ ys) ≡ (among x xs || among x ys)
unfolding among
among_append x [] ys = refl
among_append x (y ∷ xs) ys = ap (λ b. eqb x y || b) (among_append x xs ys) ∙ sym (or_assoc (eqb x y) (among x xs) (among x ys))

-- T' is T but for cell x.
abbrev Elsewhere : {F : Type 0} → ℕ → Table F → Table F → Type 0
Elsewhere x T T' = (y : ℕ) → (x ≡ y → ⊥) → T' y ≡ T y

module _ {F : Type 0} (m : Model F) (l : Laws m) where
  changed_no : (T T' : Table F) (x : ℕ) → (T' x).fact ≡ (T x).fact → changed m T T' x ≡ false
  changed_no T T' x e = ap not ((l.equal_decides (T x).fact (T' x).fact).1 (sym e))

  pub changed_self : (T : Table F) (x : ℕ) → changed m T T x ≡ false
  changed_self T x = changed_no T T x refl

  -- What changed over two narrowings changed in one of them.
  pub changed_twice : (T T₁ T₂ : Table F) → Below m (facts T₁) (facts T) → Below m (facts T₂) (facts T₁) → (x : ℕ) → changed m T T₂ x ≡ (changed m T T₁ x || changed m T₁ T₂ x)
  changed_twice T T₁ T₂ b₁ b₂ x =
      let f = (T x).fact in let g = (T₁ x).fact in let h = (T₂ x).fact in
      test_cases {P = not (m.equal f h) ≡ (not (m.equal f g) || not (m.equal g h))} (m.equal f g)
      (λ e.
      let fg : f ≡ g = (l.equal_decides f g).0 e in
      ap (λ z. not (m.equal z h)) fg ∙ ap (λ z. not z || not (m.equal g h)) (sym e))
      (λ e.
      let ne : m.equal f h ≡ false =
      false_from_ne_true (m.equal f h) (λ p.
      let fh : f ≡ h = (l.equal_decides f h).0 p in
      test_clash ((l.equal_decides f g).1 (tells_antisym m l f g (subst (λ z. Tells m z g) (sym fh) (b₂ x)) (b₁ x))) e) in
      ap not ne ∙ ap (λ z. not z || not (m.equal g h)) (sym e))

  -- Where only cell x may differ, the list of it if it changed says what changed.
  if_changed-exactly : (T T' : Table F) (x : ℕ) → Elsewhere x T T' → (y : ℕ) → among y (if_changed m T T' x) ≡ changed m T T' y
  unfolding among
  if_changed-exactly T T' x other y =
      ⊎_elim
      (λ e.
      test_cases (changed m T T' x)
      (λ c. ap (λ b. among y (cond b (x ∷ []) [])) c ∙ or_left (eqb y x) false (eq-eqb y x (sym e)) ∙ sym (subst (λ z. changed m T T' z ≡ true) e c))
      (λ c. ap (λ b. among y (cond b (x ∷ []) [])) c ∙ sym (subst (λ z. changed m T T' z ≡ false) e c)))
      (λ ne.
      let off : eqb y x ≡ false = ne_eqb y x (λ e. ne (sym e)) in
      cond_both (changed m T T' x) (x ∷ []) [] (λ z. among y z ≡ false) (λ c. ap (λ b. b || false) off) (λ c. refl)
      ∙ sym (changed_no T T' y (ap (λ (c : Cell F). c.fact) (other y ne))))
      (cases_eq x y)

  -- ---- a tell touches its target alone

  after_told_elsewhere : (x : ℕ) (g : F) (s : Reasons) (T : Table F) → Elsewhere x T (after_told m x g s T)
  unfolding after_told
  after_told_elsewhere x g s T y ne = cond-false (eqb x y) (told_cell m g s (T x)) (T y) (ne_eqb x y ne)

  after_tell_elsewhere : (ps : Premises) (t : Tell) (T : Table F) → Elsewhere t.target T (after_tell m ps t T)
  unfolding after_tell
  after_tell_elsewhere ps t T =
      cond_both (is_made m (facts T) t) (after_told m t.target (said_fact m (facts T) t) (tell_reasons m ps t T) T) T (Elsewhere t.target T)
      (λ e. after_told_elsewhere t.target (said_fact m (facts T) t) (tell_reasons m ps t T) T)
      (λ e y ne. refl)

  after_dead_elsewhere : (ps : Premises) (ns : List ℕ) (x : ℕ) (T : Table F) → Elsewhere x T (after_dead m ps ns x T)
  unfolding after_dead
  after_dead_elsewhere ps ns x T = after_told_elsewhere x (dead m) (together (premises_only ps) (reasons_of T ns)) T

  -- ---- the cells that are said to change

  -- A table that only narrowed, and a list of cells that says what changed.
  pub record Tracked (T : Table F) (xs : List ℕ) (T' : Table F) : Type 0 where
    pub narrowed : Below m (facts T') (facts T)
    pub exactly : (x : ℕ) → among x xs ≡ changed m T T' x

  pub tracked_none : (T : Table F) → Tracked T [] T
  unfolding among
  tracked_none T = record { narrowed = λ x. l.meet_idem (T x).fact; exactly = λ x. sym (changed_self T x) }

  pub tracked_more : (T T₁ T₂ : Table F) (xs ys : List ℕ) → Tracked T xs T₁ → Tracked T₁ ys T₂ → Tracked T (xs ++ ys) T₂
  tracked_more T T₁ T₂ xs ys p q = record {
    narrowed = λ x. Rattle.facts.proofs.Order.tells_trans m l (T₂ x).fact (T₁ x).fact (T x).fact (q.narrowed x) (p.narrowed x);
    exactly = λ x. among_append x xs ys ∙ ap₂ ◌||◌ (p.exactly x) (q.exactly x) ∙ sym (changed_twice T T₁ T₂ p.narrowed q.narrowed x);
  }

  tracked_tell : (ps : Premises) (t : Tell) (T : Table F) → Tracked T (if_changed m T (after_tell m ps t T) t.target) (after_tell m ps t T)
  tracked_tell ps t T = record {
    narrowed = after_tell_below m l ps t T;
    exactly = if_changed-exactly T (after_tell m ps t T) t.target (after_tell_elsewhere ps t T);
  }

  tracked_dead : (ps : Premises) (ns : List ℕ) (x : ℕ) (T : Table F) → Tracked T (if_changed m T (after_dead m ps ns x T) x) (after_dead m ps ns x T)
  tracked_dead ps ns x T = record {
    narrowed = after_dead_below m l ps ns x T;
    exactly = if_changed-exactly T (after_dead m ps ns x T) x (after_dead_elsewhere ps ns x T);
  }

  tracked_tells : (ps : Premises) (ts : List Tell) (T : Table F) → Tracked T (tells_change m ps ts T) (after_tells m ps ts T)
  unfolding tells_change after_tells
  tracked_tells ps [] T = tracked_none T
  tracked_tells ps (t ∷ ts) T =
      let T' = after_tell m ps t T in
      let b = none m (T' t.target).fact in
      let here = tracked_tell ps t T in
      test_cases {P = Tracked T (if_changed m T T' t.target ++ cond b [] (tells_change m ps ts T')) (cond b T' (after_tells m ps ts T'))} b
      (λ e. tracked_more T T' (cond b T' (after_tells m ps ts T')) (if_changed m T T' t.target) (cond b [] (tells_change m ps ts T')) here
      (subst (λ z. Tracked T' (cond z [] (tells_change m ps ts T')) (cond z T' (after_tells m ps ts T'))) (sym e) (tracked_none T')))
      (λ e. tracked_more T T' (cond b T' (after_tells m ps ts T')) (if_changed m T T' t.target) (cond b [] (tells_change m ps ts T')) here
      (subst (λ z. Tracked T' (cond z [] (tells_change m ps ts T')) (cond z T' (after_tells m ps ts T'))) (sym e) (tracked_tells ps ts T')))

  tracked_deads : (ps : Premises) (ns xs : List ℕ) (T : Table F) → Tracked T (deads_change m ps ns xs T) (after_deads m ps ns xs T)
  unfolding deads_change after_deads
  tracked_deads ps ns [] T = tracked_none T
  tracked_deads ps ns (x ∷ xs) T =
      let T' = after_dead m ps ns x T in
      tracked_more T T' (after_deads m ps ns xs T') (if_changed m T T' x) (deads_change m ps ns xs T') (tracked_dead ps ns x T) (tracked_deads ps ns xs T')

  pub tracked_fired : (k : Constraint) (T : Table F) → Tracked T (fired_change m k T) (fired m k T)
  unfolding fired_change fired
  tracked_fired k T =
      let ns = named k.form in
      let ps = owned_by k.owner in
      let b = any_in_conflict m (facts T) ns in
      let R : Bool → Type 0 = λ z. Tracked T (cond z (deads_change m ps ns ns T) (tells_change m ps (tells k.form) T)) (cond z (after_deads m ps ns ns T) (after_tells m ps (tells k.form) T)) in
      test_cases {P = R b} b
      (λ e. subst R (sym e) (tracked_deads ps ns ns T))
      (λ e. subst R (sym e) (tracked_tells ps (tells k.form) T))

  -- ---- only cells that are named are touched

  -- T' is T but for cells among ns.
  abbrev Only : List ℕ → Table F → Table F → Type 0
  Only ns T T' = (x : ℕ) → among x ns ≡ false → T' x ≡ T x

  only_one : (ns : List ℕ) (x : ℕ) (T T' : Table F) → among x ns ≡ true → Elsewhere x T T' → Only ns T T'
  only_one ns x T T' h other y off = other y (λ e. test_clash (subst (λ z. among z ns ≡ true) e h) off)

  pub only-fired : (k : Constraint) (T : Table F) → Only (named k.form) T (fired m k T)
  only-fired k T =
      let ns = named k.form in
      let ps = owned_by k.owner in
      let Named = λ (x : ℕ). among x ns ≡ true in
      fired_keeps m (Only ns T) k
      (all_weaker (λ t. Named t.target) (TellKeeps m (Only ns T) ps)
      (λ t h U p x off. only_one ns t.target U (after_tell m ps t U) h (after_tell_elsewhere ps t U) x off ∙ p x off)
      (tells k.form) (tells_targets Named k.form (all_themselves ns)))
      (all_weaker Named (DeadKeeps m (Only ns T) ps ns)
      (λ y h U p x off. only_one ns y U (after_dead m ps ns y U) h (after_dead_elsewhere ps ns y U) x off ∙ p x off)
      ns (all_themselves ns))
      T (λ x off. refl)

  -- ---- a tell leaves its own condition as it was

  condition_kept : (ps : Premises) (t : Tell) (T : Table F) → is_made m (facts (after_tell m ps t T)) t ≡ is_made m (facts T) t
  unfolding after_tell
  condition_kept ps t T =
      let b = is_made m (facts T) t in
      let U = after_told m t.target (said_fact m (facts T) t) (tell_reasons m ps t T) T in
      test_cases {P = is_made m (facts (cond b U T)) t ≡ b} b
      (λ e. is_made_mono m l (facts T) (facts (cond b U T)) t (all_of (λ x. Tells m (cond b U T x).fact (T x).fact) (after_tell_below m l ps t T) (condition_reads t.condition)) e ∙ sym e)
      (λ e. ap (λ (z : Table F). is_made m (facts z) t) (cond-false b U T e))

  -- ---- facts come of facts

  told_alone : (x : ℕ) (g : F) (s s' : Reasons) (T T' : Table F) → facts T ≡ facts T' → facts (after_told m x g s T) ≡ facts (after_told m x g s' T')
  unfolding after_told
  told_alone x g s s' T T' e =
      fun_ext λ y.
      cond-fact (eqb x y) (told_cell m g s (T x)) (T y) ∙
      ap₂ (λ a b. cond (eqb x y) a b)
      (told_cell-fact m l g s (T x) ∙ ap (λ (φ : ℕ → F). told m g (φ x)) e ∙ sym (told_cell-fact m l g s' (T' x)))
      (ap (λ (φ : ℕ → F). φ y) e)
      ∙ sym (cond-fact (eqb x y) (told_cell m g s' (T' x)) (T' y))
    where
      cond-fact : (b : Bool) (c d : Cell F) → (cond b c d).fact ≡ cond b c.fact d.fact
      cond-fact true c d = refl
      cond-fact false c d = refl

  facts_pick : (b b' : Bool) (U U' T T' : Table F) → b ≡ b' → facts U ≡ facts U' → facts T ≡ facts T' → facts (cond b U T) ≡ facts (cond b' U' T')
  facts_pick b true U U' T T' e p q = ap (λ z. facts (cond z U T)) e ∙ p
  facts_pick b false U U' T T' e p q = ap (λ z. facts (cond z U T)) e ∙ q

  tell_alone : (ps ps' : Premises) (t : Tell) (T T' : Table F) → facts T ≡ facts T' → facts (after_tell m ps t T) ≡ facts (after_tell m ps' t T')
  unfolding after_tell
  tell_alone ps ps' t T T' e =
      let b = is_made m (facts T) t in
      let b' = is_made m (facts T') t in
      let U = after_told m t.target (said_fact m (facts T) t) (tell_reasons m ps t T) T in
      let U' = after_told m t.target (said_fact m (facts T') t) (tell_reasons m ps' t T') T' in
      let same : b ≡ b' = ap (λ φ. is_made m φ t) e in
      let u : facts U ≡ facts U' =
      told_alone t.target (said_fact m (facts T) t) (tell_reasons m ps t T) (tell_reasons m ps' t T') T T' e
      ∙ ap (λ φ. facts (after_told m t.target (said_fact m φ t) (tell_reasons m ps' t T') T')) e in
      facts_pick b b' U U' T T' same u e

  tells_alone : (ps ps' : Premises) (ts : List Tell) (T T' : Table F) → facts T ≡ facts T' → facts (after_tells m ps ts T) ≡ facts (after_tells m ps' ts T')
  unfolding after_tells
  tells_alone ps ps' [] T T' e = e
  tells_alone ps ps' (t ∷ ts) T T' e =
      let U = after_tell m ps t T in
      let U' = after_tell m ps' t T' in
      let u : facts U ≡ facts U' = tell_alone ps ps' t T T' e in
      facts_pick (none m (U t.target).fact) (none m (U' t.target).fact) U U' (after_tells m ps ts U) (after_tells m ps' ts U')
      (ap (λ (φ : ℕ → F). none m (φ t.target)) u) u (tells_alone ps ps' ts U U' u)

  deads_alone : (ps ps' : Premises) (ns xs : List ℕ) (T T' : Table F) → facts T ≡ facts T' → facts (after_deads m ps ns xs T) ≡ facts (after_deads m ps' ns xs T')
  unfolding after_deads after_dead
  deads_alone ps ps' ns [] T T' e = e
  deads_alone ps ps' ns (x ∷ xs) T T' e =
      deads_alone ps ps' ns xs (after_dead m ps ns x T) (after_dead m ps' ns x T')
      (told_alone x (dead m) (together (premises_only ps) (reasons_of T ns)) (together (premises_only ps') (reasons_of T' ns)) T T' e)

  fired_alone : (k : Constraint) (T T' : Table F) → facts T ≡ facts T' → facts (fired m k T) ≡ facts (fired m k T')
  unfolding fired
  fired_alone k T T' e =
      let ns = named k.form in
      let ps = owned_by k.owner in
      facts_pick (any_in_conflict m (facts T) ns) (any_in_conflict m (facts T') ns) (after_deads m ps ns ns T) (after_deads m ps ns ns T') (after_tells m ps (tells k.form) T) (after_tells m ps (tells k.form) T')
      (ap (λ φ. any_in_conflict m φ ns) e) (deads_alone ps ps ns ns T T' e) (tells_alone ps ps (tells k.form) T T' e)

  pub goes_so : GoesSo m
  goes_so = record {
    change_exactly = λ k T x. (tracked_fired k T).exactly x;
    touches_named = only-fired;
    condition_kept = condition_kept;
    facts_alone = fired_alone;
  }
