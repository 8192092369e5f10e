-- A firing gone through tell by tell.
use Rattle.std.proofs.Common.{◌≡◌, ℕ, ◌+◌, ◌≤◌, Bool, true, false, cond, List, [], ◌∷◌, ◌++◌, length, sym, refl, ap, ap₂, ◌∙◌, subst, append_assoc, length-append, arith}
use Rattle.std.proofs.lemmas.Bool.{cond-true, cond-false}
use Rattle.std.proofs.lemmas.List.{append-nil}
use Rattle.facts.specs.Model.{Model}
use Rattle.facts.specs.Laws.{Laws}
use Rattle.facts.specs.Derived.{none, dead}
use Rattle.plan.specs.Forms.{named}
use Rattle.plan.specs.Known.{known}
use Rattle.plan.specs.Placements.{Premises, owned_by}
use Rattle.plan.specs.declared.constraint.Constraint.{Constraint}
use Rattle.forms.specs.Tells.{tells}
use Rattle.forms.specs.declared.tell.Tell.{Tell}
use Rattle.sets.specs.Members.{among}
use Rattle.telling.specs.Reasons.{Reasons, together, premises_only}
use Rattle.telling.specs.Tables.{Table, facts, reasons_of, changed}
use Rattle.telling.specs.Telling.{after_told, after_tell}
use Rattle.telling.specs.Firing.{after_tells, after_dead, after_deads, any_in_conflict, fired, tells_change, deads_change, fired_change}
use Rattle.telling.proofs.Changes.{tracked_fired}
use Rattle.cells.specs.declared.cell.Cell.{Cell}
use Rattle.cells.specs.declared.changed.Changed.{Changed}
use Rattle.cells.specs.Meaning.{table_of}
use Rattle.cells.specs.Changes.{changed_cells, Done}

-- ---- a list gone through from its front

-- Of all, those of left are still to come: the table was S and is T, and cs are the cells that have changed.
pub record SoFar {F A : Type 0} (after : List A → Table F → Table F) (change : List A → Table F → List ℕ) (all : List A) (S : Table F) (left : List A) (T : Table F) (cs : List ℕ) : Type 0 where
  pub few : length cs + length left ≤ 4
  pub table : after all S ≡ after left T
  pub cells : change all S ≡ cs ++ change left T

module _ {F A : Type 0} {after : List A → Table F → Table F} {change : List A → Table F → List ℕ} {all : List A} {S : Table F} where
  -- One more is done, which changed the cells ds.
  so_far_more : {left : List A} {T : Table F} {cs : List ℕ} → SoFar after change all S left T cs → (y : A) (ys : List A) (T' : Table F) (ds cs' : List ℕ) → left ≡ y ∷ ys → after (y ∷ ys) T ≡ after ys T' → change (y ∷ ys) T ≡ ds ++ change ys T' → length ds ≤ 1 → cs' ≡ cs ++ ds →
      SoFar after change all S ys T' cs'
  so_far_more {T = T} {cs = cs} so y ys T' ds cs' is e f one g = record {
    few = let a = so.few in let l = ap length is in let k = ap length g ∙ length-append cs ds in omega arith;
    table = so.table ∙ ap (λ z. after z T) is ∙ e;
    cells = so.cells ∙ ap (λ z. cs ++ change z T) is ∙ ap (λ z. cs ++ z) f ∙ sym (append_assoc cs ds (change ys T')) ∙ ap (λ z. z ++ change ys T') (sym g);
  }

  -- One more is done, and it is the last.
  so_far-last : {left : List A} {T : Table F} {cs : List ℕ} → SoFar after change all S left T cs → (z : List A) (T' : Table F) (ds cs' : List ℕ) → left ≡ z → after z T ≡ T' → change z T ≡ ds → cs' ≡ cs ++ ds → (T' ≡ after all S) × (cs' ≡ change all S)
  so_far-last {T = T} {cs = cs} so z T' ds cs' is e f g =
      (sym (so.table ∙ ap (λ z. after z T) is ∙ e), sym (so.cells ∙ ap (λ z. cs ++ change z T) is ∙ ap (λ z. cs ++ z) f ∙ sym g))

-- The cells that have changed, and x if it changed.
pub grown_then : (b : Bool) (x : ℕ) (cs cs' : List ℕ) → b ≡ true → cs' ≡ cs ++ x ∷ [] → cs' ≡ cs ++ cond b (x ∷ []) []
grown_then b x cs cs' h e = subst (λ z. cs' ≡ cs ++ cond z (x ∷ []) []) (sym h) e

pub grown_else : (b : Bool) (x : ℕ) (cs cs' : List ℕ) → b ≡ false → cs' ≡ cs → cs' ≡ cs ++ cond b (x ∷ []) []
grown_else b x cs cs' h e = subst (λ z. cs' ≡ cs ++ cond z (x ∷ []) []) (sym h) (e ∙ sym (append-nil cs))

at_most_one : (b : Bool) (x : ℕ) → length (cond b (x ∷ []) []) ≤ 1
at_most_one true x = omega arith
at_most_one false x = omega arith

-- ---- cells told that no number is allowed

module _ {F : Type 0} (m : Model F) (ps : Premises) (ns : List ℕ) where
  made_dead : (x : ℕ) (T : Table F) (g : F) (s : Reasons) {b : Bool} {T' : Table F} → b ≡ true → T' ≡ cond b (after_told m x g s T) T → g ≡ dead m → s ≡ together (premises_only ps) (reasons_of T ns) → T' ≡ after_dead m ps ns x T
  unfolding after_dead
  made_dead x T g s there e i j = e ∙ cond-true _ (after_told m x g s T) T there ∙ ap₂ (λ z r. after_told m x z r T) i j

  -- One more cell is told, and cs' are the cells that have changed then.
  pub deads_more : {S T : Table F} {left cs : List ℕ} → SoFar (after_deads m ps ns) (deads_change m ps ns) ns S left T cs → (x : ℕ) (xs : List ℕ) (g : F) (s : Reasons) (there : Bool) (T' : Table F) (b : Bool) (cs' : List ℕ) → left ≡ x ∷ xs →
      there ≡ true → T' ≡ cond there (after_told m x g s T) T → g ≡ dead m → s ≡ together (premises_only ps) (reasons_of T ns) → b ≡ changed m T T' x → cs' ≡ cs ++ cond b (x ∷ []) [] →
      SoFar (after_deads m ps ns) (deads_change m ps ns) ns S xs T' cs'
  unfolding after_deads deads_change
  deads_more {T = T} so x xs g s there T' b cs' is h t i j e k =
      let made = made_dead x T g s h t i j in
      so_far_more so x xs T' (cond b (x ∷ []) []) cs' is (ap (after_deads m ps ns xs) (sym made))
      (ap (λ z. cond (changed m T z x) (x ∷ []) [] ++ deads_change m ps ns xs z) (sym made) ∙ ap (λ z. cond z (x ∷ []) [] ++ deads_change m ps ns xs T') (sym e)) (at_most_one b x) k

  pub deads_all : {S T : Table F} {left cs : List ℕ} → SoFar (after_deads m ps ns) (deads_change m ps ns) ns S left T cs → left ≡ [] → (T ≡ after_deads m ps ns ns S) × (cs ≡ deads_change m ps ns ns S)
  unfolding after_deads deads_change
  deads_all {T = T} {cs = cs} so is = so_far-last so [] T [] cs is refl refl (sym (append-nil cs))

-- ---- tells in their order

module _ {F : Type 0} (m : Model F) (ps : Premises) (ts : List Tell) {S T : Table F} {left : List Tell} {cs : List ℕ} (so : SoFar (after_tells m ps) (tells_change m ps) ts S left T cs) where
  module _ (t : Tell) (us : List Tell) (T' : Table F) (b : Bool) (cs' : List ℕ) (is : left ≡ t ∷ us) (made : T' ≡ after_tell m ps t T) (e : b ≡ changed m T T' t.target) (g : cs' ≡ cs ++ cond b (t.target ∷ []) []) where
    -- The tables and the cells from here on, by whether the tell ended in a conflict.
    here-table : after_tells m ps (t ∷ us) T ≡ cond (none m (T' t.target).fact) T' (after_tells m ps us T')
    unfolding after_tells
    here-table = ap (λ (z : Table F). cond (none m (z t.target).fact) z (after_tells m ps us z)) (sym made)

    here-cells : tells_change m ps (t ∷ us) T ≡ cond b (t.target ∷ []) [] ++ cond (none m (T' t.target).fact) [] (tells_change m ps us T')
    unfolding tells_change
    here-cells =
        ap (λ (z : Table F). cond (changed m T z t.target) (t.target ∷ []) [] ++ cond (none m (z t.target).fact) [] (tells_change m ps us z)) (sym made)
        ∙ ap (λ z. cond z (t.target ∷ []) [] ++ cond (none m (T' t.target).fact) [] (tells_change m ps us T')) (sym e)

    pub tells_more : false ≡ none m (T' t.target).fact → SoFar (after_tells m ps) (tells_change m ps) ts S us T' cs'
    tells_more h =
        so_far_more so t us T' (cond b (t.target ∷ []) []) cs' is (here-table ∙ cond-false _ T' (after_tells m ps us T') (sym h))
        (here-cells ∙ ap (λ z. cond b (t.target ∷ []) [] ++ z) (cond-false _ [] (tells_change m ps us T') (sym h))) (at_most_one b t.target) g

    -- A tell that ends in a conflict is the last.
    pub tells_stop : true ≡ none m (T' t.target).fact → (T' ≡ after_tells m ps ts S) × (cs' ≡ tells_change m ps ts S)
    tells_stop h =
        so_far-last so (t ∷ us) T' (cond b (t.target ∷ []) []) cs' is (here-table ∙ cond-true _ T' (after_tells m ps us T') (sym h))
        (here-cells ∙ ap (λ z. cond b (t.target ∷ []) [] ++ z) (cond-true _ [] (tells_change m ps us T') (sym h)) ∙ append-nil (cond b (t.target ∷ []) [])) g

  pub tells_all : left ≡ [] → (T ≡ after_tells m ps ts S) × (cs ≡ tells_change m ps ts S)
  unfolding after_tells tells_change
  tells_all is = so_far-last so [] T [] cs is refl refl (sym (append-nil cs))

-- ---- firing

module _ {F : Type 0} (m : Model F) (l : Laws m) (k : Constraint) (xs ys : List (Cell F)) (c : Changed) (fits : known (length xs) 32 k ≡ true) where
  abbrev S : Table F
  S = table_of m xs

  done : table_of m ys ≡ fired m k S → changed_cells c ≡ fired_change m k S → Done m k xs c ys
  done t e = record {
    fits = fits;
    table = t;
    cells = e;
    exactly = λ x. ap (among x) e ∙ (tracked_fired m l k S).exactly x ∙ ap (λ T. changed m S T x) (sym t);
  }

  pub fired_deads : true ≡ any_in_conflict m (facts S) (named k.form) → table_of m ys ≡ after_deads m (owned_by k.owner) (named k.form) (named k.form) S → changed_cells c ≡ deads_change m (owned_by k.owner) (named k.form) (named k.form) S → Done m k xs c ys
  unfolding fired fired_change
  fired_deads h t e = done (t ∙ sym (cond-true _ _ _ (sym h))) (e ∙ sym (cond-true _ _ _ (sym h)))

  pub fired-tells : false ≡ any_in_conflict m (facts S) (named k.form) → table_of m ys ≡ after_tells m (owned_by k.owner) (tells k.form) S → changed_cells c ≡ tells_change m (owned_by k.owner) (tells k.form) S → Done m k xs c ys
  unfolding fired fired_change
  fired-tells h t e = done (t ∙ sym (cond-false _ _ _ (sym h))) (e ∙ sym (cond-false _ _ _ (sym h)))
