-- What a placement that meets the helpers' constraints gives to an expression.
use Rattle.std.proofs.Common.{◌≡◌, ℕ, true, List, [], ◌∷◌, ◌++◌, length, ℤ, pos, ◌+ℤ◌, None, sym, ◌∙◌, subst, arith}
use lib.Signed.{le_z}
use Rattle.std.proofs.lemmas.Int.{ints, clamps}
use Rattle.std.proofs.lemmas.Bool.{false≢true, and_parts}
use Rattle.statements.specs.Numbers.{InU, raised, lowered}
use Rattle.statements.specs.Statements.{allowed}
use Rattle.statements.specs.declared.statement.Statement.TheVariants.{Between}
use Rattle.plan.specs.declared.constraint.Constraint.{Constraint}
use Rattle.plan.specs.declared.constraint.Form.{Form}
use Rattle.plan.specs.declared.constraint.Form.TheVariants.{State, Sum}
use Rattle.plan.specs.Items.{Items}
use Rattle.plan.specs.Names.{Texts}
use Rattle.plan.specs.Placements.{Placement, Satisfies, Premises, InForce, Meets}
use Rattle.grammar.specs.Tree.{Expr, one, plus, Term, named, counted, group}
use Rattle.meaning.specs.Making.{cell_named, helper, makes, makes_term}
use Rattle.meaning.specs.Solutions.{Assignment, value, term_value, Summed, TermSummed, Extension}
use Rattle.meaning.proofs.Growing.{Grows, grows_expr, grows-helper, Knows, KnowsTerm, knows_term_after}

-- constraints and one more are met where the constraints are, and the one
pub meets-front : (p : Placement) (s : Premises) (ks : List Constraint) (k : Constraint) → Meets p s (ks ++ k ∷ []) → Meets p s ks × (InForce s k → Satisfies p k.form)
meets-front p s [] k h = (tt, h.0)
meets-front p s (x ∷ xs) k h = let q = meets-front p s xs k h.1 in ((h.0, q.0), q.1)

pub meets_last : (p : Placement) (s : Premises) (ks : List Constraint) (k : Constraint) → Meets p s ks → (InForce s k → Satisfies p k.form) → Meets p s (ks ++ k ∷ [])
meets_last p s [] k h e = (e, tt)
meets_last p s (x ∷ xs) k h e = (h.0, meets_last p s xs k h.1 e)

-- what nothing owns is in force
unowned : (s : Premises) (f : Form) → InForce s (record { owner = None; form = f })
unowned s f = λ q h. absurd (false≢true h)

-- a placement that fits a draft fits what the draft grew from
pub extension_back : {ts : Texts} {d e : Items} {s : Premises} {v : Assignment} {p : Placement} → Grows ts d e → Meets p s d.constraints → Extension ts e s v p → Extension ts d s v p
extension_back g m x = record { placed = x.placed; meets = m; extends = λ b c h. x.extends b c (g.cells_stay b c h) }

-- what fits a draft with a helper fits the draft, and satisfies the helper's form
pub record Helped (ts : Texts) (d : Items) (s : Premises) (v : Assignment) (p : Placement) (f : Form) : Type 0 where
  pub holds : Satisfies p f
  pub rest : Extension ts d s v p

pub helped : {ts : Texts} {s : Premises} {v : Assignment} {p : Placement} (f : ℕ → Form) (d : Items) → Extension ts (helper None f d).then s v p → Helped ts d s v p (f (length d.cells))
helped {ts} {s} {v} {p} f d x =
    let q = meets-front p s d.constraints (record { owner = None; form = f (length d.cells) }) x.meets in
    record { holds = q.1 (unowned s (f (length d.cells))); rest = extension_back (grows-helper ts None f d) q.0 x }

-- the only number from n to n is n
pub between_is : (n : ℕ) (x : ℤ) → allowed (Between (pos n) (pos n)) x ≡ true → x ≡ pos n
between_is n x h =
    let q = and_parts (le_z (raised (pos n)) x) (le_z x (lowered (pos n))) h in
    let a : le_z (raised (pos n)) x ≡ true = q.0 in
    let b : le_z x (lowered (pos n)) ≡ true = q.1 in
    omega (arith, ints, clamps)

-- where a placement fits what is made of an expression, the cell has the expression's value, and each `+` has one in U
pub record Read (ts : Texts) (d : Items) (s : Premises) (v : Assignment) (p : Placement) (c : ℕ) (z : ℤ) (S : Type 0) : Type 0 where
  pub is : p c ≡ z
  pub sums : S
  pub rest : Extension ts d s v p

mutual
  pub read_expr : {ts : Texts} {s : Premises} {v : Assignment} {p : Placement} (e : Expr) (d : Items) → Knows ts d e → Extension ts (makes ts None e d).then s v p → Read ts d s v p (makes ts None e d).cell (value v e) (Summed v e)
  read_expr (one t) d k x = read_term t d k x
  read_expr {ts} {s} {v} {p} (plus e c t) d k x =
      let m = (makes ts None e d).then in
      let u = makes_term ts None t m in
      let h = helped (λ i. Sum (makes ts None e d).cell u.cell i) u.then x in
      let right = read_term t m (knows_term_after (grows_expr ts e d) t k.1) h.rest in
      let left = read_expr e d k.0 right.rest in
      let sum : p (length u.then.cells) ≡ value v e +ℤ term_value v t = sym h.holds ∙ (λ i. left.is i +ℤ right.is i) in
      record { is = sum; sums = (left.sums, right.sums, subst InU sum (x.placed (length u.then.cells))); rest = left.rest }

  pub read_term : {ts : Texts} {s : Premises} {v : Assignment} {p : Placement} (t : Term) (d : Items) → KnowsTerm ts d t → Extension ts (makes_term ts None t d).then s v p → Read ts d s v p (makes_term ts None t d).cell (term_value v t) (TermSummed v t)
  read_term {ts} (named n) d k x = record { is = x.extends n.bytes (cell_named ts d n.bytes) k; sums = tt; rest = x }
  read_term {p = p} (counted j) d k x =
      let h = helped (λ i. State i (Between (pos j.value) (pos j.value))) d x in
      record { is = between_is j.value (p (length d.cells)) h.holds; sums = tt; rest = h.rest }
  read_term (group c e j) d k x =
      let r = read_expr e d k x in
      record { is = r.is; sums = r.sums; rest = r.rest }
