-- What a line says, as a tree, and the words that spell it.
use Rattle.std.specs.Prelude.{ℕ, ◌+◌, max, List, [], ◌∷◌, ◌++◌, Some, None, Option}
use Rattle.words.specs.declared.Keyword.TheVariants.{Cell, Premise, In, To, Align, Apart}
use Rattle.words.specs.declared.Symbol.TheVariants.{Colon, Plus, Open, Close, AtMost}
use Rattle.words.specs.Words.{Word, name, number, reserved, symbol, Spot}

-- A name where it stands.
pub record Name : Type 0 where
  pub column : ℕ
  pub bytes : List ℕ

-- A number where it stands.
pub record Number : Type 0 where
  pub column : ℕ
  pub value : ℕ

mutual
  -- Terms joined by `+` from the left, each `+` with its column.
  pub data Expr : Type 0 where
    one : Term → Expr
    plus : Expr → ℕ → Term → Expr

  -- A name, a number, or an expression in parentheses, with the columns of both.
  pub data Term : Type 0 where
    named : Name → Term
    counted : Number → Term
    group : ℕ → Expr → ℕ → Term

-- The premise that a constraint begins with, and the column of the `:` after it.
pub record Owner : Type 0 where
  pub premise : Name
  pub colon : ℕ

-- What a constraint asks; the bare numbers are the columns of `in` and `to`, of `align`, of `apart` and of `<=`.
pub data Body : Type 0 where
  -- `N in LO to HI`
  within : Name → ℕ → Number → ℕ → Number → Body
  -- `N align K R`
  aligned : Name → ℕ → Number → Number → Body
  -- `A apart D B E`
  apart : Name → ℕ → Number → Name → Number → Body
  -- an expression, `<=`, an expression
  at_most : Expr → ℕ → Expr → Body

-- A line: nothing, a declaration with the column of its reserved word, or a constraint.
pub data Line : Type 0 where
  blank : Line
  cell : ℕ → Name → Line
  premise : ℕ → Name → Line
  constraint : Option Owner → Body → Line

-- A word at a column.
abbrev pub at : ℕ → Word → Spot
at c w = record { column = c; word = w }

-- The word that spells a name.
abbrev pub name_spot : Name → Spot
name_spot n = at n.column (name n.bytes)

-- The word that spells a number.
abbrev pub number_spot : Number → Spot
number_spot k = at k.column (number k.value)

-- The words that spell an expression, and those that spell a term.
abbrev mutual
  pub spell : Expr → List Spot
  spell (one t) = spell_term t
  spell (plus e c t) = spell e ++ (at c (symbol Plus) ∷ spell_term t)

  pub spell_term : Term → List Spot
  spell_term (named n) = name_spot n ∷ []
  spell_term (counted k) = number_spot k ∷ []
  spell_term (group c e k) = at c (symbol Open) ∷ (spell e ++ (at k (symbol Close) ∷ []))

-- The words of a premise before a constraint.
abbrev pub spell_owner : Option Owner → List Spot
spell_owner None = []
spell_owner (Some o) = name_spot o.premise ∷ at o.colon (symbol Colon) ∷ []

-- The words that spell what a constraint asks.
abbrev pub spell_body : Body → List Spot
spell_body (within n i lo t hi) =
    name_spot n ∷ at i (reserved In) ∷ number_spot lo ∷ at t (reserved To) ∷ number_spot hi ∷ []
spell_body (aligned n c k r) = name_spot n ∷ at c (reserved Align) ∷ number_spot k ∷ number_spot r ∷ []
spell_body (apart a c d b e) = name_spot a ∷ at c (reserved Apart) ∷ number_spot d ∷ name_spot b ∷ number_spot e ∷ []
spell_body (at_most e c f) = spell e ++ (at c (symbol AtMost) ∷ spell f)

-- The words that spell a line.
abbrev pub spell_line : Line → List Spot
spell_line blank = []
spell_line (cell c n) = at c (reserved Cell) ∷ name_spot n ∷ []
spell_line (premise c n) = at c (reserved Premise) ∷ name_spot n ∷ []
spell_line (constraint o b) = spell_owner o ++ spell_body b

-- How deep the parentheses of an expression nest, and those of a term.
abbrev mutual
  pub deep : Expr → ℕ
  deep (one t) = deep_term t
  deep (plus e c t) = max (deep e) (deep_term t)

  pub deep_term : Term → ℕ
  deep_term (named n) = 0
  deep_term (counted k) = 0
  deep_term (group c e k) = deep e + 1

-- How deep the parentheses of what a constraint asks nest.
abbrev pub deep_body : Body → ℕ
deep_body (within n i lo t hi) = 0
deep_body (aligned n c k r) = 0
deep_body (apart a c d b e) = 0
deep_body (at_most e c f) = max (deep e) (deep f)

-- How deep the parentheses of a line nest.
abbrev pub deep_line : Line → ℕ
deep_line blank = 0
deep_line (cell c n) = 0
deep_line (premise c n) = 0
deep_line (constraint o b) = deep_body b
