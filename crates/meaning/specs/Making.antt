-- What a line makes: cells, premises and constraints, numbered in order of making.
use Rattle.std.specs.Prelude.{ℕ, ◌+◌, ◌-◌, ◌%◌, ◌^◌, ◌<◌, ◌≤◌, min, List, [], ◌∷◌, ◌++◌, length, pos, Some, None, Option}
use Rattle.std.proofs.Common.{arith, mod-lt}
use Rattle.std.proofs.lemmas.Nat.{pow_pos}
use Rattle.statements.specs.declared.statement.Statement.{Statement}
use Rattle.statements.specs.declared.statement.Statement.TheVariants.{Between, Aligned}
use Rattle.plan.specs.declared.constraint.Form.{Form}
use Rattle.plan.specs.declared.constraint.Form.TheVariants.{State, Sum, Gap, Apart}
use Rattle.plan.specs.declared.place.Place.{Place}
use Rattle.plan.specs.Items.{Items}
use Rattle.plan.specs.Names.{Texts, cell_of, premise_of}
use Rattle.grammar.specs.Tree.{Name, Expr, one, plus, Term, named, counted, group, Owner, Body, within, aligned, apart, at_most, Line, blank, cell, premise, constraint}

-- the number found, or 0: a line with a name that is not found is refused, and makes nothing
abbrev pub or_zero : Option ℕ → ℕ
or_zero None = 0
or_zero (Some i) = i

-- the cell that a name means
abbrev pub cell_named : Texts → Items → List ℕ → ℕ
cell_named ts d b = or_zero (cell_of ts d.cells b)

-- the premise that a name means
abbrev pub premise_named : Texts → Items → List ℕ → ℕ
premise_named ts d b = or_zero (premise_of ts d.premises b)

-- one constraint more
abbrev pub adds : Option ℕ → Form → Items → Items
adds q f d = record { cells = d.cells; premises = d.premises; constraints = d.constraints ++ record { owner = q; form = f } ∷ [] }

-- what there is after an expression, and the cell that holds its value
pub record Grown : Type 0 where
  pub cell : ℕ
  pub then : Items

-- a helper cell, without a name, and its constraint
abbrev pub helper : Option ℕ → (ℕ → Form) → Items → Grown
helper q f d = record {
  cell = length d.cells;
  then = adds q (f (length d.cells)) (record { cells = d.cells ++ None ∷ []; premises = d.premises; constraints = d.constraints });
}

-- a helper that holds a number
abbrev pub makes_number : Option ℕ → ℕ → Items → Grown
makes_number q n d = helper q (λ c. State c (Between (pos n) (pos n))) d

-- a helper that holds the sum of two cells
abbrev pub makes_sum : Option ℕ → ℕ → ℕ → Items → Grown
makes_sum q a b d = helper q (λ c. Sum a b c) d

-- Each number and each `+` makes a helper, from the left, a `+` after both its sides; q owns the helpers' constraints.
abbrev mutual
  pub makes : Texts → Option ℕ → Expr → Items → Grown
  makes ts q (one t) d = makes_term ts q t d
  makes ts q (plus e c t) d =
      makes_sum q (makes ts q e d).cell (makes_term ts q t (makes ts q e d).then).cell (makes_term ts q t (makes ts q e d).then).then

  pub makes_term : Texts → Option ℕ → Term → Items → Grown
  makes_term ts q (named n) d = record { cell = cell_named ts d n.bytes; then = d }
  makes_term ts q (counted k) d = makes_number q k.value d
  makes_term ts q (group c e k) d = makes ts q e d

-- a power taken to at most 24, and a rest by it, are in their ranges
pub power_fine : (k : ℕ) → min k 24 ≤ 24
power_fine k = omega arith

pub rest_small : (k r : ℕ) → r % 2 ^ min k 24 < 2 ^ min k 24
rest_small k r = mod-lt r (pow_pos (min k 24))

-- aligned to 2 ^ k with the rest r: k is at most 24 and r below 2 ^ k in every line that is not refused
abbrev pub aligned_to : ℕ → ℕ → Statement
aligned_to k r = Aligned (record { k = min k 24; r = r % 2 ^ min k 24; fine = power_fine k; below = rest_small k r })

-- the constraint that a line is, owned by p, after its helpers, which nothing owns
abbrev pub body_makes : Texts → Option ℕ → Body → Items → Items
body_makes ts p (within n i lo t hi) d = adds p (State (cell_named ts d n.bytes) (Between (pos lo.value) (pos hi.value))) d
body_makes ts p (aligned n c k r) d = adds p (State (cell_named ts d n.bytes) (aligned_to k.value r.value)) d
body_makes ts p (apart a c x b y) d = adds p (Apart (cell_named ts d a.bytes) x.value (cell_named ts d b.bytes) y.value) d
body_makes ts p (at_most e c f) d =
    adds p (Gap (makes ts None e d).cell (pos 0) (makes ts None f (makes ts None e d).then).cell) (makes ts None f (makes ts None e d).then).then

-- the premise that a line begins with
abbrev pub owner_of : Texts → Items → Option Owner → Option ℕ
owner_of ts d None = None
owner_of ts d (Some o) = Some (premise_named ts d o.premise.bytes)

-- where a name of a line stands, the line being at an offset of a text
abbrev pub place_of : ℕ → ℕ → Name → Place
place_of t o n = record { text = t; start = o + (n.column - 1); len = length n.bytes }

-- what there is after a line
abbrev pub line_makes : Texts → ℕ → ℕ → Line → Items → Items
line_makes ts t o blank d = d
line_makes ts t o (cell c n) d = record { cells = d.cells ++ Some (place_of t o n) ∷ []; premises = d.premises; constraints = d.constraints }
line_makes ts t o (premise c n) d = record { cells = d.cells; premises = d.premises ++ place_of t o n ∷ []; constraints = d.constraints }
line_makes ts t o (constraint w b) d = body_makes ts (owner_of ts d w) b d
