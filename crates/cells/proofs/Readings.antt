-- What a tell says and asks, and its reasons, from what was read.
use Rattle.std.proofs.Common.{◌≡◌, ◌⊎◌, inl, inr, ℕ, ◌<◌, length, get_or, subst, List, [], ◌∷◌, ℤ, pos, ◌+ℤ◌, ◌-ℤ◌, Option, unwrap_or, refl, sym, ap, ◌∙◌, ap₂}
use mathlib.Core.Path.{fun_ext}
use Rattle.std.proofs.Math.Bool.{or-false, or_assoc}
use Rattle.statements.specs.Numbers.{top, bottom}
use Rattle.statements.specs.Search.{LeastFrom, GreatestTo}
use Rattle.statements.specs.Statements.{allowed}
use Rattle.statements.specs.declared.statement.Statement.{Statement}
use Rattle.statements.specs.declared.statement.Statement.TheVariants.{Between}
use Rattle.statements.proofs.Searches.{least_from_is, greatest_to_is}
use Rattle.statements.proofs.Statements.{allowed_within}
use Rattle.facts.specs.Model.{Model}
use Rattle.forms.specs.Tells.{saying_reads, said, up, down}
use Rattle.forms.specs.declared.tell.Saying.{Saying}
use Rattle.forms.specs.declared.tell.Saying.TheVariants.{Plus, Minus}
use Rattle.telling.specs.Reasons.{Reasons, no_reasons, together}
use Rattle.telling.specs.Tables.{Table, reasons_of}
use Rattle.cells.specs.declared.cell.Cell.{Cell}
use Rattle.cells.specs.Meaning.{tags_of, table_of, Inside}
use Rattle.cells.proofs.Tables.{read_reasons}

module _ (lo hi : ℕ → ℤ) where
  ends : {a b p q : ℤ} → a ≡ p → b ≡ q → Between a b ≡ Between p q
  ends e f = ap₂ Between e f

  pub said-plus : (s : Saying) (x y : ℕ) {a b : ℤ} → s ≡ Plus x y → a ≡ (lo x +ℤ lo y) → b ≡ (hi x +ℤ hi y) → Between a b ≡ said lo hi s
  said-plus s x y i e f = ends e f ∙ sym (ap (said lo hi) i)

  pub said_minus : (s : Saying) (x y : ℕ) {a b : ℤ} → s ≡ Minus x y → a ≡ (lo x -ℤ hi y) → b ≡ (hi x -ℤ lo y) → Between a b ≡ said lo hi s
  said_minus s x y i e f = ends e f ∙ sym (ap (said lo hi) i)

-- ---- the least number of a statement from one up, and the greatest from one down

pub up-unwrap_or : (s : Statement) (n : ℤ) (o : Option ℤ) → LeastFrom (allowed s) n o → unwrap_or o (top +ℤ pos 1) ≡ up s n
unfolding up
up-unwrap_or s n o h = ap (λ r. unwrap_or r (top +ℤ pos 1)) (least_from_is (allowed s) (allowed_within s) n o h)

pub down-unwrap_or : (s : Statement) (n : ℤ) (o : Option ℤ) → GreatestTo (allowed s) n o → unwrap_or o (bottom -ℤ pos 1) ≡ down s n
unfolding down
down-unwrap_or s n o h = ap (λ r. unwrap_or r (bottom -ℤ pos 1)) (greatest_to_is (allowed s) (allowed_within s) n o h)

-- ---- the reasons of some cells

together_none : (r : Reasons) → together r no_reasons ≡ r
together_none r = fun_ext λ t. or-false (r t)

together_assoc : (r s t : Reasons) → together (together r s) t ≡ together r (together s t)
together_assoc r s t = fun_ext λ x. or_assoc (r x) (s x) (t x)

module _ {F : Type 0} (T : Table F) (xs : List ℕ) where
  -- Before the first cell.
  pub reasons_begun : {ys : List ℕ} {r : Reasons} → ys ≡ xs → r ≡ no_reasons → reasons_of T xs ≡ together r (reasons_of T ys)
  reasons_begun {ys = ys} i e = ap (reasons_of T) (sym i) ∙ ap (λ z. together z (reasons_of T ys)) (sym e)

  -- After one more cell.
  pub reasons_more : {ys zs : List ℕ} (x : ℕ) (r : Reasons) {s u : Reasons} → reasons_of T xs ≡ together r (reasons_of T ys) → ys ≡ x ∷ zs → s ≡ (T x).reasons → u ≡ together r s → reasons_of T xs ≡ together u (reasons_of T zs)
  reasons_more {zs = zs} x r {s} so i e f =
      so ∙ ap (λ z. together r (reasons_of T z)) i ∙ ap (λ z. together r (together z (reasons_of T zs))) (sym e)
      ∙ sym (together_assoc r s (reasons_of T zs)) ∙ ap (λ z. together z (reasons_of T zs)) (sym f)

module _ {F : Type 0} (m : Model F) (cells : List (Cell F)) where
  -- One cell's reasons beside those of others.
  pub reasons_beside : (x : ℕ) (xs : List ℕ) (d : Cell F) {r u : Reasons} → x < length cells → r ≡ reasons_of (table_of m cells) xs → u ≡ together (tags_of (get_or cells x d).reasons) r → u ≡ reasons_of (table_of m cells) (x ∷ xs)
  reasons_beside x xs d lt e i = i ∙ ap₂ together (read_reasons m cells x d lt) e

  pub reasons_two : (xs : List ℕ) (x y : ℕ) (d e : Cell F) {u : Reasons} → xs ≡ x ∷ y ∷ [] → Inside (length cells) xs → u ≡ together (tags_of (get_or cells x d).reasons) (tags_of (get_or cells y e).reasons) → u ≡ reasons_of (table_of m cells) xs
  reasons_two xs x y d e is h i =
      let here = subst (Inside (length cells)) is h in
      reasons_beside x (y ∷ []) d here.0 (reasons_beside y [] e here.1.0 refl (sym (together_none (tags_of (get_or cells y e).reasons)))) i ∙ sym (ap (reasons_of (table_of m cells)) is)

-- The two cells that a sum or a difference reads.
pub two_read : {s : Saying} {x y : ℕ} → (s ≡ Plus x y) ⊎ (s ≡ Minus x y) → saying_reads s ≡ x ∷ y ∷ []
two_read (inl e) = ap saying_reads e
two_read (inr e) = ap saying_reads e
