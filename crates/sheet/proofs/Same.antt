-- Helpers have no name, so a name means the same after them.
use Rattle.std.proofs.Common.{◌≡◌, ℕ, ◌+◌, Bool, false, cond, List, [], ◌∷◌, ◌++◌, Some, None, Option, refl, ap, ◌∙◌}
use Rattle.std.specs.List.{position_from}
use Rattle.faults.specs.declared.Found.{Found}
use Rattle.plan.specs.declared.place.Place.{Place}
use Rattle.plan.specs.Items.{Items}
use Rattle.plan.specs.Names.{Texts, name_at, spells, cell_of}
use Rattle.grammar.specs.Tree.{Expr, one, plus, Term, named, counted, group}
use Rattle.meaning.specs.Making.{makes, makes_term}
use Rattle.meaning.specs.Checks.{first, wanted, expr_fault, term_fault}

pub first_assoc : (a b c : Option Found) → first (first a b) c ≡ first a (first b c)
first_assoc None b c = refl
first_assoc (Some f) b c = refl

pub first_none : (a : Option Found) → first a None ≡ a
first_none None = refl
first_none (Some f) = refl

first_past : (i : ℕ) (f : Option Place → Bool) (xs : List (Option Place)) → f None ≡ false → position_from f i (xs ++ None ∷ []) ≡ position_from f i xs
first_past i f [] h = ap (λ b. cond b (Some i) None) h
first_past i f (x ∷ xs) h = ap (cond (f x) (Some i)) (first_past (i + 1) f xs h)

-- the same names are found
pub record Same (ts : Texts) (d e : Items) : Type 0 where
  pub cells : (b : List ℕ) → cell_of ts e.cells b ≡ cell_of ts d.cells b
  pub premises : e.premises ≡ d.premises

same_all : {ts : Texts} {d : Items} → Same ts d d
same_all = record { cells = λ b. refl; premises = refl }

pub same_then : {ts : Texts} {d e u : Items} → Same ts d e → Same ts e u → Same ts d u
same_then p q = record { cells = λ b. q.cells b ∙ p.cells b; premises = q.premises ∙ p.premises }

mutual
  pub same_expr : (ts : Texts) (q : Option ℕ) (x : Expr) (d : Items) → Same ts d (makes ts q x d).then
  same_expr ts q (one t) d = same_term ts q t d
  same_expr ts q (plus x c t) d =
      same_then (same_expr ts q x d) (same_then (same_term ts q t (makes ts q x d).then)
      (record { cells = λ b. first_past 0 (λ p. spells (name_at ts p) b) (makes_term ts q t (makes ts q x d).then).then.cells refl; premises = refl }))

  pub same_term : (ts : Texts) (q : Option ℕ) (t : Term) (d : Items) → Same ts d (makes_term ts q t d).then
  same_term ts q (named n) d = same_all
  same_term ts q (counted k) d = record { cells = λ b. first_past 0 (λ p. spells (name_at ts p) b) d.cells refl; premises = refl }
  same_term ts q (group c x k) d = same_expr ts q x d

mutual
  pub expr_fault_same : (ts : Texts) (x : Expr) (d e : Items) → Same ts d e → expr_fault ts e x ≡ expr_fault ts d x
  expr_fault_same ts (one t) d e s = term_fault_same ts t d e s
  expr_fault_same ts (plus x c t) d e s = λ i. first (expr_fault_same ts x d e s i) (term_fault_same ts t d e s i)

  pub term_fault_same : (ts : Texts) (t : Term) (d e : Items) → Same ts d e → term_fault ts e t ≡ term_fault ts d t
  term_fault_same ts (named n) d e s = ap (λ o. wanted o n.column) (s.cells n.bytes)
  term_fault_same ts (counted k) d e s = refl
  term_fault_same ts (group c x k) d e s = expr_fault_same ts x d e s
