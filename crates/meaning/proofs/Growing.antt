-- What a line that is not refused finds, and that it stays found while a draft grows.
use Rattle.std.proofs.Common.{◌≡◌, ℕ, ◌≤◌, List, [], ◌∷◌, ◌++◌, length, pos, Some, None, Option, sym, refl, ap, ◌∙◌, arith}
use Rattle.statements.specs.declared.statement.Statement.TheVariants.{Between}
use Rattle.plan.specs.declared.constraint.Form.{Form}
use Rattle.plan.specs.declared.constraint.Form.TheVariants.{State, Sum}
use Rattle.plan.specs.declared.place.Place.{Place}
use Rattle.plan.specs.Items.{Items}
use Rattle.faults.specs.declared.Found.{Found}
use Rattle.plan.specs.Names.{Texts, cell_of, premise_of, spells, name_at, part_of}
use Rattle.grammar.specs.Tree.{Name, Expr, one, plus, Term, named, counted, group, Owner, Body, within, aligned, apart, at_most, constraint}
use Rattle.meaning.specs.Making.{or_zero, cell_named, premise_named, adds, helper, makes, makes_term}
use Rattle.meaning.specs.Checks.{first, wanted, unwanted, expr_fault, term_fault, body_fault, owner_fault, new_fault, line_fault, range_fault}
use Rattle.std.proofs.lemmas.List.{length_push}
use Rattle.std.proofs.lemmas.Option.{none-some}
use Rattle.meaning.proofs.Names.{first_past}

-- what was found before is found after, under the same numbers
pub record Grows (ts : Texts) (d e : Items) : Type 0 where
  pub cells_stay : (b : List ℕ) (c : ℕ) → cell_of ts d.cells b ≡ Some c → cell_of ts e.cells b ≡ Some c
  pub premises_stay : (b : List ℕ) (q : ℕ) → premise_of ts d.premises b ≡ Some q → premise_of ts e.premises b ≡ Some q
  pub more_cells : length d.cells ≤ length e.cells
  pub more_premises : length d.premises ≤ length e.premises

pub grows_none : {ts : Texts} {d : Items} → Grows ts d d
grows_none {ts} {d} = record { cells_stay = λ b c h. h; premises_stay = λ b q h. h; more_cells = omega arith; more_premises = omega arith }

pub grows_then : {ts : Texts} {d e u : Items} → Grows ts d e → Grows ts e u → Grows ts d u
grows_then {ts} {d} {e} {u} g k = record {
  cells_stay = λ b c h. k.cells_stay b c (g.cells_stay b c h);
  premises_stay = λ b q h. k.premises_stay b q (g.premises_stay b q h);
  more_cells = omega (arith, g.more_cells, k.more_cells);
  more_premises = omega (arith, g.more_premises, k.more_premises);
}

-- a further constraint leaves all names as they are
pub grows-adds : (ts : Texts) (q : Option ℕ) (f : Form) (d : Items) → Grows ts d (adds q f d)
grows-adds ts q f d = record { cells_stay = λ b c h. h; premises_stay = λ b q h. h; more_cells = omega arith; more_premises = omega arith }

-- one cell more
abbrev pub with_cell : Option Place → Items → Items
with_cell x d = record { cells = d.cells ++ x ∷ []; premises = d.premises; constraints = d.constraints }

-- one premise more
abbrev pub with_premise : Place → Items → Items
with_premise x d = record { cells = d.cells; premises = d.premises ++ x ∷ []; constraints = d.constraints }

pub grows-cell : (ts : Texts) (x : Option Place) (d : Items) → Grows ts d (with_cell x d)
grows-cell ts x d = record {
  cells_stay = λ b c h. first_past (λ p. spells (name_at ts p) b) d.cells x 0 c h;
  premises_stay = λ b q h. h;
  more_cells = omega (arith, length_push d.cells x);
  more_premises = omega arith;
}

pub grows-premise : (ts : Texts) (x : Place) (d : Items) → Grows ts d (with_premise x d)
grows-premise ts x d = record {
  cells_stay = λ b c h. h;
  premises_stay = λ b q h. first_past (λ p. spells (part_of ts p) b) d.premises x 0 q h;
  more_cells = omega arith;
  more_premises = omega (arith, length_push d.premises x);
}

pub grows-helper : (ts : Texts) (q : Option ℕ) (f : ℕ → Form) (d : Items) → Grows ts d (helper q f d).then
grows-helper ts q f d = grows_then (grows-cell ts None d) (grows-adds ts q (f (length d.cells)) (with_cell None d))

-- there is a cell of that name
abbrev pub Finds : Texts → Items → List ℕ → Type 0
Finds ts d b = cell_of ts d.cells b ≡ Some (cell_named ts d b)

-- there is a premise of that name
abbrev pub FindsPremise : Texts → Items → List ℕ → Type 0
FindsPremise ts d b = premise_of ts d.premises b ≡ Some (premise_named ts d b)

some-found : (o : Option ℕ) (i : ℕ) → o ≡ Some i → o ≡ Some (or_zero o)
some-found o i h = h ∙ ap (λ (u : Option ℕ). Some (or_zero u)) (sym h)

finds-after : {ts : Texts} {d e : Items} → Grows ts d e → (b : List ℕ) → Finds ts d b → Finds ts e b
finds-after {ts} {d} {e} g b h = some-found (cell_of ts e.cells b) (cell_named ts d b) (g.cells_stay b (cell_named ts d b) h)

-- the names of an expression are found
abbrev mutual
  pub Knows : Texts → Items → Expr → Type 0
  Knows ts d (one t) = KnowsTerm ts d t
  Knows ts d (plus e c t) = Knows ts d e × KnowsTerm ts d t

  pub KnowsTerm : Texts → Items → Term → Type 0
  KnowsTerm ts d (named n) = Finds ts d n.bytes
  KnowsTerm ts d (counted k) = Unit {0}
  KnowsTerm ts d (group c e k) = Knows ts d e

abbrev pub KnowsBody : Texts → Items → Body → Type 0
KnowsBody ts d (within n i lo t hi) = Finds ts d n.bytes
KnowsBody ts d (aligned n c k r) = Finds ts d n.bytes
KnowsBody ts d (apart a c x b y) = Finds ts d a.bytes × Finds ts d b.bytes
KnowsBody ts d (at_most e c f) = Knows ts d e × Knows ts d f

abbrev pub KnowsOwner : Texts → Items → Option Owner → Type 0
KnowsOwner ts d None = Unit {0}
KnowsOwner ts d (Some o) = FindsPremise ts d o.premise.bytes

-- names that are found stay found
mutual
  pub knows_after : {ts : Texts} {d u : Items} → Grows ts d u → (e : Expr) → Knows ts d e → Knows ts u e
  knows_after g (one t) h = knows_term_after g t h
  knows_after g (plus e c t) h = (knows_after g e h.0, knows_term_after g t h.1)

  pub knows_term_after : {ts : Texts} {d u : Items} → Grows ts d u → (t : Term) → KnowsTerm ts d t → KnowsTerm ts u t
  knows_term_after g (named n) h = finds-after g n.bytes h
  knows_term_after g (counted k) h = tt
  knows_term_after g (group c e k) h = knows_after g e h

-- where there is no first problem there is none
first_none : (f g : Option Found) → first f g ≡ None → (f ≡ None) × (g ≡ None)
first_none None g h = (refl, h)
first_none (Some f) g h = absurd (none-some f (sym h))

wanted_none : (o : Option ℕ) (c : ℕ) → wanted o c ≡ None → o ≡ Some (or_zero o)
wanted_none None c h = absurd (none-some _ (sym h))
wanted_none (Some i) c h = refl

unwanted_none : (o : Option ℕ) (c : ℕ) → unwanted o c ≡ None → o ≡ None
unwanted_none None c h = refl
unwanted_none (Some i) c h = absurd (none-some _ (sym h))

mutual
  expr_knows : (ts : Texts) (d : Items) (e : Expr) → expr_fault ts d e ≡ None → Knows ts d e
  expr_knows ts d (one t) h = term_knows ts d t h
  expr_knows ts d (plus e c t) h =
      let q = first_none (expr_fault ts d e) (term_fault ts d t) h in
      (expr_knows ts d e q.0, term_knows ts d t q.1)

  term_knows : (ts : Texts) (d : Items) (t : Term) → term_fault ts d t ≡ None → KnowsTerm ts d t
  term_knows ts d (named n) h = wanted_none (cell_of ts d.cells n.bytes) n.column h
  term_knows ts d (counted k) h = tt
  term_knows ts d (group c e k) h = expr_knows ts d e h

body_knows : (ts : Texts) (d : Items) (b : Body) → body_fault ts d b ≡ None → KnowsBody ts d b
body_knows ts d (within n i lo t hi) h = wanted_none (cell_of ts d.cells n.bytes) n.column h
body_knows ts d (aligned n c k r) h =
    wanted_none (cell_of ts d.cells n.bytes) n.column (first_none (wanted (cell_of ts d.cells n.bytes) n.column) (range_fault k r) h).0
body_knows ts d (apart a c x b y) h =
    let q = first_none (wanted (cell_of ts d.cells a.bytes) a.column) (wanted (cell_of ts d.cells b.bytes) b.column) h in
    (wanted_none (cell_of ts d.cells a.bytes) a.column q.0, wanted_none (cell_of ts d.cells b.bytes) b.column q.1)
body_knows ts d (at_most e c f) h =
    let q = first_none (expr_fault ts d e) (expr_fault ts d f) h in
    (expr_knows ts d e q.0, expr_knows ts d f q.1)

owner_knows : (ts : Texts) (d : Items) (w : Option Owner) → owner_fault ts d w ≡ None → KnowsOwner ts d w
owner_knows ts d None h = tt
owner_knows ts d (Some o) h = wanted_none (premise_of ts d.premises o.premise.bytes) o.premise.column h

-- a constraint that is not refused has its names found
pub constraint_knows : (ts : Texts) (d : Items) (w : Option Owner) (b : Body) → line_fault ts d (constraint w b) ≡ None → KnowsOwner ts d w × KnowsBody ts d b
constraint_knows ts d w b h =
    let q = first_none (owner_fault ts d w) (body_fault ts d b) h in
    (owner_knows ts d w q.0, body_knows ts d b q.1)

-- a name that may be declared is no cell's yet
pub new_name : (ts : Texts) (d : Items) (n : Name) → new_fault ts d n ≡ None → cell_of ts d.cells n.bytes ≡ None
new_name ts d n h =
    unwanted_none (cell_of ts d.cells n.bytes) n.column (first_none (unwanted (cell_of ts d.cells n.bytes) n.column) (unwanted (premise_of ts d.premises n.bytes) n.column) h).0

-- the helpers of an expression leave what was found
mutual
  pub grows_expr : (ts : Texts) (e : Expr) (d : Items) → Grows ts d (makes ts None e d).then
  grows_expr ts (one t) d = grows_term_lem ts t d
  grows_expr ts (plus e c t) d =
      grows_then (grows_then (grows_expr ts e d) (grows_term_lem ts t (makes ts None e d).then)) (grows-helper ts None (λ i. Sum (makes ts None e d).cell (makes_term ts None t (makes ts None e d).then).cell i) (makes_term ts None t (makes ts None e d).then).then)

  pub grows_term_lem : (ts : Texts) (t : Term) (d : Items) → Grows ts d (makes_term ts None t d).then
  grows_term_lem ts (named n) d = grows_none
  grows_term_lem ts (counted k) d = grows-helper ts None (λ i. State i (Between (pos k.value) (pos k.value))) d
  grows_term_lem ts (group c e k) d = grows_expr ts e d
