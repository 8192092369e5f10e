-- What lines ask of the numbers of declared cells, and that a plan asks the same.
use Rattle.std.specs.Prelude.{◌≡◌, ℕ, ◌<◌, Bool, true, ◌⊎◌, List, [], ◌∷◌, length, ℤ, pos, ◌+ℤ◌, ◌≤ℤ◌, Some, None, Option}
use Rattle.statements.specs.Statements.{allowed}
use Rattle.statements.specs.declared.statement.Statement.TheVariants.{Between}
use Rattle.plan.specs.Items.{Items}
use Rattle.plan.specs.Names.{Texts, cell_of}
use Rattle.statements.specs.Numbers.{InU}
use Rattle.plan.specs.Placements.{Placement, Placed, Premises, Meets}
use Rattle.grammar.specs.Tree.{Expr, one, plus, Term, named, counted, group, Owner, Body, within, aligned, apart, at_most, Line, blank, cell, premise, constraint}
use Rattle.meaning.specs.Making.{cell_named, premise_named, aligned_to}

-- a number for each name
abbrev pub Assignment : Type 0
Assignment = List ℕ → ℤ

-- the value of an expression
abbrev mutual
  pub value : Assignment → Expr → ℤ
  value v (one t) = term_value v t
  value v (plus e c t) = value v e +ℤ term_value v t

  pub term_value : Assignment → Term → ℤ
  term_value v (named n) = v n.bytes
  term_value v (counted k) = pos k.value
  term_value v (group c e k) = value v e

-- every `+` of an expression has a value in U
abbrev mutual
  pub Summed : Assignment → Expr → Type 0
  Summed v (one t) = TermSummed v t
  Summed v (plus e c t) = Summed v e × TermSummed v t × InU (value v e +ℤ term_value v t)

  pub TermSummed : Assignment → Term → Type 0
  TermSummed v (named n) = Unit {0}
  TermSummed v (counted k) = Unit {0}
  TermSummed v (group c e k) = Summed v e

abbrev pub BodySummed : Assignment → Body → Type 0
BodySummed v (within n i lo t hi) = Unit {0}
BodySummed v (aligned n c k r) = Unit {0}
BodySummed v (apart a c x b y) = Unit {0}
BodySummed v (at_most e c f) = Summed v e × Summed v f

-- what a line asks where it is in force
abbrev pub Holds : Assignment → Body → Type 0
Holds v (within n i lo t hi) = allowed (Between (pos lo.value) (pos hi.value)) (v n.bytes) ≡ true
Holds v (aligned n c k r) = allowed (aligned_to k.value r.value) (v n.bytes) ≡ true
Holds v (apart a c x b y) = ((v a.bytes +ℤ pos x.value) ≤ℤ v b.bytes) ⊎ ((v b.bytes +ℤ pos y.value) ≤ℤ v a.bytes)
Holds v (at_most e c f) = value v e ≤ℤ value v f

-- a line without a premise is always in force, any other when its premise is
abbrev pub Forced : (List ℕ → Bool) → Option Owner → Type 0
Forced s None = Unit {0}
Forced s (Some o) = s o.premise.bytes ≡ true

-- what a line asks under some premises: that it holds where it is in force, and in any case that its sums have values
abbrev pub Solves : Assignment → (List ℕ → Bool) → Line → Type 0
Solves v s blank = Unit {0}
Solves v s (cell c n) = Unit {0}
Solves v s (premise c n) = Unit {0}
Solves v s (constraint w b) = (Forced s w → Holds v b) × BodySummed v b

abbrev pub SolvesAll : Assignment → (List ℕ → Bool) → List Line → Type 0
SolvesAll v s [] = Unit {0}
SolvesAll v s (l ∷ ls) = Solves v s l × SolvesAll v s ls

-- a solution of lines under some premises gives numbers of U to names
pub record Solution (v : Assignment) (s : List ℕ → Bool) (ls : List Line) : Type 0 where
  pub numbers : (b : List ℕ) → InU (v b)
  pub solves : SolvesAll v s ls

-- a placement gives each declared cell the number that its name has
abbrev pub Extends : Texts → Items → Placement → Assignment → Type 0
Extends ts d p v = (b : List ℕ) (c : ℕ) → cell_of ts d.cells b ≡ Some c → p c ≡ v b

-- a placement of the network that meets some premises and extends an assignment
pub record Extension (ts : Texts) (d : Items) (s : Premises) (v : Assignment) (p : Placement) : Type 0 where
  pub placed : Placed p
  pub meets : Meets p s d.constraints
  pub extends : Extends ts d p v

-- there is such a placement, and on the cells of the network only one
pub record OneExtension (ts : Texts) (d : Items) (s : Premises) (v : Assignment) : Type 0 where
  pub placement : Placement
  pub is : Extension ts d s v placement
  pub only : (p : Placement) → Extension ts d s v p → (c : ℕ) → c < length d.cells → p c ≡ placement c

-- the numbers that a placement gives to names
abbrev pub cut_to : Texts → Items → Placement → Assignment
cut_to ts d p b = p (cell_named ts d b)

-- the names of a set of premises
abbrev pub by_name : Texts → Items → Premises → List ℕ → Bool
by_name ts d s b = s (premise_named ts d b)

-- the lines and the network have the same solutions, whatever premises are in force: each placement that meets them,
-- cut to the declared cells, solves the lines, and each solution of the lines extends to exactly one placement
pub record SameSolutions (ts : Texts) (ls : List Line) (d : Items) : Type 0 where
  pub cuts : (s : Premises) (p : Placement) → Placed p → Meets p s d.constraints → Solution (cut_to ts d p) (by_name ts d s) ls
  pub extends : (s : Premises) (v : Assignment) → Solution v (by_name ts d s) ls → OneExtension ts d s v
