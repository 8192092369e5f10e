-- The three cases of a cell that is told, and one cell of a table told.
use Rattle.std.proofs.Common.{◌≡◌, ℕ, ◌<◌, Bool, true, false, cond, not, ltb, List, length, set, None, Option, sym, refl, ap, ◌∙◌}
use mathlib.Core.Path.{fun_ext}
use Rattle.std.proofs.lemmas.Bool.{cond-true, cond-false, lt-ltb}
use Rattle.facts.specs.Model.{Model}
use Rattle.facts.specs.Derived.{tidy, told}
use Rattle.plan.specs.Placements.{Premises, owned_by}
use Rattle.forms.specs.Tells.{reads}
use Rattle.forms.specs.declared.tell.Tell.{Tell}
use Rattle.telling.specs.Reasons as theory
use Rattle.telling.specs.Reasons.{Tag, premise, guess, no_reasons, together, premises_only}
use Rattle.telling.specs.Tables as tables
use Rattle.telling.specs.Tables.{Table, upd, facts, reasons_of, changed}
use Rattle.telling.specs.Telling.{is_made, said_fact, told_cell, after_told, after_tell}
use Rattle.telling.proofs.Cases.{upd-here}
use Rattle.cells.specs.declared.cell.Cell.{Cell}
use Rattle.cells.specs.declared.reasons.Reasons.{Reasons}
use Rattle.cells.specs.Meaning.{tags_of, cell_of, table_of}
use Rattle.cells.proofs.Tables.{table_set}

-- Reasons that are no premise are those of a constraint without an owner.
pub owned_none : (o : Option ℕ) {r : theory.Reasons} → o ≡ None → r ≡ no_reasons → r ≡ premises_only (owned_by o)
owned_none o {r} e f = f ∙ fun_ext none ∙ ap (λ z. premises_only (owned_by z)) (sym e)
  where
    none : (t : Tag) → no_reasons t ≡ premises_only (owned_by None) t
    none (premise p) = refl
    none (guess g) = refl

module _ {F : Type 0} (m : Model F) (c : tables.Cell F) (g : F) (s : theory.Reasons) (h : F) (is : h ≡ told m g c.fact) where
  -- The cell that toldCell answers, by the answers of its two tests.
  abbrev pick : Bool → Bool → F → tables.Cell F
  pick a b z = cond a c (record { fact = z; reasons = cond b s (together c.reasons s) })

  picked : (a b : Bool) → a ≡ m.equal h c.fact → b ≡ m.equal h (tidy m g) → pick a b h ≡ told_cell m g s c
  unfolding told_cell
  picked a b e f =
      ap (λ x. pick x b h) e ∙ ap (λ y. pick (m.equal h c.fact) y h) f
      ∙ ap (λ z. pick (m.equal z c.fact) (m.equal z (tidy m g)) z) is

  pub told-kept : true ≡ m.equal h c.fact → c ≡ told_cell m g s c
  told-kept e = picked true (m.equal h (tidy m g)) e refl

  pub told_fresh : {t : F} → t ≡ tidy m g → false ≡ m.equal h c.fact → true ≡ m.equal h t → record { fact = h; reasons = s } ≡ told_cell m g s c
  told_fresh i e f = picked false true e (f ∙ ap (m.equal h) i)

  pub told_joined : {t : F} {r : theory.Reasons} → t ≡ tidy m g → false ≡ m.equal h c.fact → false ≡ m.equal h t → r ≡ together c.reasons s → record { fact = h; reasons = r } ≡ told_cell m g s c
  told_joined i e f j = ap (λ z. record { fact = h; reasons = z }) j ∙ picked false false e (f ∙ ap (m.equal h) i)

-- ---- one cell of a table

module _ {F : Type 0} (m : Model F) (xs : List (Cell F)) (x : ℕ) (g : F) (s : Reasons) where
  -- The slice with the told cell written is the table with the cell told.
  table-told : (old new : Cell F) → x < length xs → cell_of old ≡ table_of m xs x → cell_of new ≡ told_cell m g (tags_of s) (cell_of old) → table_of m (set xs x new) ≡ after_told m x g (tags_of s) (table_of m xs)
  unfolding after_told
  table-told old new lt was is =
      table_set m xs x new lt ∙ ap (upd (table_of m xs) x) (is ∙ ap (told_cell m g (tags_of s)) was)

  pub tell_there : (old new : Cell F) → x < length xs → cell_of old ≡ table_of m xs x → cell_of new ≡ told_cell m g (tags_of s) (cell_of old) →
      table_of m (set xs x new) ≡ cond (ltb x (length xs)) (after_told m x g (tags_of s) (table_of m xs)) (table_of m xs)
  tell_there old new lt was is = table-told old new lt was is ∙ sym (cond-true (ltb x (length xs)) (after_told m x g (tags_of s) (table_of m xs)) (table_of m xs) (lt-ltb x (length xs) lt))

  pub tell_changed : (old new : Cell F) → x < length xs → cell_of old ≡ table_of m xs x → not (m.equal old.fact new.fact) ≡ changed m (table_of m xs) (table_of m (set xs x new)) x
  tell_changed old new lt was =
      ap (λ (z : tables.Cell F). not (m.equal z.fact new.fact)) was
      ∙ ap (λ (z : tables.Cell F). not (m.equal (table_of m xs x).fact z.fact)) (sym (ap (λ (T : Table F). T x) (table_set m xs x new lt) ∙ upd-here (table_of m xs) x (cell_of new)))

-- ---- one tell

module _ {F : Type 0} (m : Model F) (ps : Premises) (t : Tell) (T : Table F) where
  pub make_made : (g : F) (s : theory.Reasons) {b : Bool} {T' : Table F} → b ≡ true → T' ≡ cond b (after_told m t.target g s T) T → true ≡ is_made m (facts T) t → g ≡ said_fact m (facts T) t → s ≡ together (premises_only ps) (reasons_of T (reads t)) →
      T' ≡ after_tell m ps t T
  unfolding after_tell
  make_made g s there e h i j =
      e ∙ cond-true _ (after_told m t.target g s T) T there
      ∙ ap (λ z. after_told m t.target z s T) i
      ∙ ap (λ z. after_told m t.target (said_fact m (facts T) t) z T) j
      ∙ sym (cond-true (is_made m (facts T) t) (after_told m t.target (said_fact m (facts T) t) (together (premises_only ps) (reasons_of T (reads t))) T) T (sym h))

  pub make_not : false ≡ is_made m (facts T) t → T ≡ after_tell m ps t T
  unfolding after_tell
  make_not h = sym (cond-false (is_made m (facts T) t) (after_told m t.target (said_fact m (facts T) t) (together (premises_only ps) (reasons_of T (reads t))) T) T (sym h))
