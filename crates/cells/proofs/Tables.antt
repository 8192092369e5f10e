-- Lent slices as tables: what an index reads and what a write leaves.
use Rattle.std.proofs.Common.{◌≡◌, ℕ, zero, suc, ◌<◌, eqb, List, [], ◌∷◌, map, length, get_or, set, sym, refl, ap, ◌∙◌, subst, arith}
use mathlib.Core.Path.{fun_ext}
use Rattle.std.proofs.lemmas.List.{get_or-set_same, get_or-set_other, map-set, length-map}
use Rattle.std.proofs.lemmas.Bool.{cond_both, eqb-true, eq-eqb}
use Rattle.statements.proofs.Tests.{test_clash}
use Rattle.facts.specs.Model.{Model}
use Rattle.telling.specs.Tables as tables
use Rattle.telling.specs.Tables.{upd, start_cell}
use Rattle.cells.specs.declared.cell.Cell.{Cell}
use Rattle.cells.specs.Meaning.{tags_of, cell_of, table_of}

get_or-upd : {A : Type 0} (d : A) (xs : List A) (i : ℕ) (v : A) → i < length xs → (λ j. get_or (set xs i v) j d) ≡ upd (λ j. get_or xs j d) i v
get_or-upd d xs i v lt =
    fun_ext λ j.
    cond_both (eqb i j) v (get_or xs j d) (λ z. get_or (set xs i v) j d ≡ z)
    (λ e. subst (λ z. get_or (set xs i v) z d ≡ v) (eqb-true i j e) (get_or-set_same xs i v d lt))
    (λ e. get_or-set_other xs i j v d (λ p. test_clash (eq-eqb i j (sym p)) e))

module _ {F : Type 0} (m : Model F) (xs : List (Cell F)) (i : ℕ) where
  -- A write changes one cell.
  pub table_set : (v : Cell F) → i < length xs → table_of m (set xs i v) ≡ upd (table_of m xs) i (cell_of v)
  table_set v lt =
      ap (λ ys. λ j. get_or ys j (start_cell m)) (map-set cell_of xs i v) ∙ get_or-upd (start_cell m) (map cell_of xs) i (cell_of v) (subst (λ n. i < n) (sym (length-map xs cell_of)) lt)

pub table_at : {F : Type 0} (m : Model F) (xs : List (Cell F)) (i : ℕ) (d : Cell F) → i < length xs → table_of m xs i ≡ cell_of (get_or xs i d)
table_at m [] i d lt = absurd (omega arith)
table_at m (x ∷ xs) zero d lt = refl
table_at m (x ∷ xs) (suc i) d lt = table_at m xs i d (omega arith)

-- What an index reads.
pub read_cell : {F : Type 0} (m : Model F) (xs : List (Cell F)) (i : ℕ) (r : Cell F) → i < length xs → r ≡ get_or xs i r → cell_of r ≡ table_of m xs i
read_cell m xs i r lt is = ap cell_of is ∙ sym (table_at m xs i r lt)

pub read_reasons : {F : Type 0} (m : Model F) (xs : List (Cell F)) (i : ℕ) (d : Cell F) → i < length xs → tags_of (get_or xs i d).reasons ≡ (table_of m xs i).reasons
read_reasons m xs i d lt = ap (λ (z : tables.Cell _). z.reasons) (sym (table_at m xs i d lt))
