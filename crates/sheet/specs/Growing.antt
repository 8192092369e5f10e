-- What reading an expression leaves: what it makes, and the first problem with its names. Nothing owns what it makes.
use Rattle.std.specs.Prelude.{ℕ, None}
use Rattle.grammar.specs.Tree.{Name, Expr, Term}
use Rattle.meaning.specs.Making.{makes, makes_term}
use Rattle.meaning.specs.Checks.{expr_fault, term_fault, cell_fault}
use Rattle.sheet.specs.Progress.{Progress, made, further}

-- where the reading has come, and the cell that holds the value
pub record Grown : Type 0 where
  pub cell : ℕ
  pub then : Progress

abbrev pub grows : Expr → Progress → Grown
grows e p = record {
  cell = (makes p.texts None e p.items).cell;
  then = made (further p (expr_fault p.texts p.items e)) (makes p.texts None e p.items).then;
}

abbrev pub grows_term : Term → Progress → Grown
grows_term t p = record {
  cell = (makes_term p.texts None t p.items).cell;
  then = made (further p (term_fault p.texts p.items t)) (makes_term p.texts None t p.items).then;
}

-- where the reading has come after a cell's name
abbrev pub after_name : Name → Progress → Progress
after_name n p = further p (cell_fault p.texts p.items n)
