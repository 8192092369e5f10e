-- Cells, and tables of them as functions of the cell's number.
use Rattle.std.specs.Prelude.{ℕ, zero, suc, ◌+◌, Bool, false, cond, not, ◌||◌, List, [], ◌∷◌, ◌==◌}
use Rattle.facts.specs.Model.{Model}
use Rattle.facts.specs.Derived.{start}
use Rattle.telling.specs.Reasons.{Reasons, no_reasons, together}

-- What is known of a number, and why.
pub record Cell (F : Type 0) : Type 0 where
  pub fact : F
  pub reasons : Reasons

-- A cell for each number.
abbrev pub Table : Type 0 → Type 0
Table F = ℕ → Cell F

-- The table with another cell at x.
abbrev pub upd : {A : Type 0} → (ℕ → A) → ℕ → A → ℕ → A
upd T x c y = cond (x == y) c (T y)

-- The facts of a table.
abbrev pub facts : {F : Type 0} → Table F → ℕ → F
facts T x = (T x).fact

-- A table of facts as cells without reasons.
abbrev pub bare : {F : Type 0} → (ℕ → F) → Table F
bare φ x = record { fact = φ x; reasons = no_reasons }

-- The reasons of some cells together.
abbrev pub reasons_of : {F : Type 0} → Table F → List ℕ → Reasons
reasons_of T [] = no_reasons
reasons_of T (x ∷ xs) = together (T x).reasons (reasons_of T xs)

-- Does some element pass the test?
unfoldable pub any : {A : Type 0} → (A → Bool) → List A → Bool
any p [] = false
any p (x ∷ xs) = p x || any p xs

module _ {F : Type 0} (m : Model F) where
  -- The cell of which nothing is known yet.
  abbrev pub start_cell : Cell F
  start_cell = record { fact = start m; reasons = no_reasons }

  -- Does the fact of cell x differ between two tables?
  abbrev pub changed : Table F → Table F → ℕ → Bool
  changed T T' x = not (m.equal (T x).fact (T' x).fact)

  -- The sizes of the first n facts of a table, added.
  unfoldable pub table_size : ℕ → Table F → ℕ
  table_size zero T = 0
  table_size (suc n) T = table_size n T + m.size (T n).fact
