-- What is wrong with the names and numbers of a line, from the left.
use Rattle.std.specs.Prelude.{ℕ, ◌^◌, cond, Some, None, Option, nat_lt}
use Rattle.faults.specs.declared.Found.{Found}
use Rattle.faults.specs.declared.Problem.{Problem}
use Rattle.faults.specs.declared.Problem.TheVariants.{Unknown, Twice, Range}
use Rattle.plan.specs.Items.{Items}
use Rattle.plan.specs.Names.{Texts, cell_of, premise_of}
use Rattle.grammar.specs.Tree.{Name, Number, Expr, one, plus, Term, named, counted, group, Owner, Body, within, aligned, apart, at_most, Line, blank, cell, premise, constraint}

-- a problem at a column of the line
abbrev pub at : Problem → ℕ → Option Found
at p c = Some (record { problem = p; column = c })

-- the first of two, where there is one
abbrev pub first : Option Found → Option Found → Option Found
first None g = g
first (Some f) g = Some f

-- a name that is to be known
abbrev pub wanted : Option ℕ → ℕ → Option Found
wanted None c = at Unknown c
wanted (Some i) c = None

-- a name that is to be new
abbrev pub unwanted : Option ℕ → ℕ → Option Found
unwanted None c = None
unwanted (Some i) c = at Twice c

-- a cell's name
abbrev pub cell_fault : Texts → Items → Name → Option Found
cell_fault ts d n = wanted (cell_of ts d.cells n.bytes) n.column

-- the names of an expression
abbrev mutual
  pub expr_fault : Texts → Items → Expr → Option Found
  expr_fault ts d (one t) = term_fault ts d t
  expr_fault ts d (plus e c t) = first (expr_fault ts d e) (term_fault ts d t)

  pub term_fault : Texts → Items → Term → Option Found
  term_fault ts d (named n) = cell_fault ts d n
  term_fault ts d (counted k) = None
  term_fault ts d (group c e k) = expr_fault ts d e

-- an alignment's power is at most 24, and its rest below 2 to that power
abbrev pub range_fault : Number → Number → Option Found
range_fault k r = cond (nat_lt 24 k.value) (at Range k.column) (cond (nat_lt r.value (2 ^ k.value)) None (at Range r.column))

abbrev pub body_fault : Texts → Items → Body → Option Found
body_fault ts d (within n i lo t hi) = cell_fault ts d n
body_fault ts d (aligned n c k r) = first (cell_fault ts d n) (range_fault k r)
body_fault ts d (apart a c x b y) = first (cell_fault ts d a) (cell_fault ts d b)
body_fault ts d (at_most e c f) = first (expr_fault ts d e) (expr_fault ts d f)

-- the premise's name before a `:`
abbrev pub owner_fault : Texts → Items → Option Owner → Option Found
owner_fault ts d None = None
owner_fault ts d (Some o) = wanted (premise_of ts d.premises o.premise.bytes) o.premise.column

-- a name that is declared: cells and premises share one name space
abbrev pub new_fault : Texts → Items → Name → Option Found
new_fault ts d n = first (unwanted (cell_of ts d.cells n.bytes) n.column) (unwanted (premise_of ts d.premises n.bytes) n.column)

-- the first problem with the names and numbers of a line
abbrev pub line_fault : Texts → Items → Line → Option Found
line_fault ts d blank = None
line_fault ts d (cell c n) = new_fault ts d n
line_fault ts d (premise c n) = new_fault ts d n
line_fault ts d (constraint w b) = first (owner_fault ts d w) (body_fault ts d b)
