-- What the readers of constraints and of lines answer.
use Rattle.std.specs.Prelude.{◌≡◌, ℕ, ◌≤◌, Bool, true, false, not, List, [], ◌∷◌, None, Some, Ok, Err, Option, Result}
use Rattle.std.specs.List.{All}
use Rattle.words.specs.declared.Keyword.{Keyword}
use Rattle.words.specs.declared.Keyword.TheVariants.{Cell, Premise, In, To, Align, Apart}
use Rattle.words.specs.declared.Placed.{Placed}
use Rattle.words.specs.declared.Symbol.TheVariants.{Colon}
use Rattle.words.specs.Words.{Word, name, number, reserved, symbol, Spot}
use Rattle.grammar.specs.Tree.{Name, Owner, Body, Line, constraint}
use Rattle.grammar.specs.Parse.{Rest, rest, body, need, name_next, whole, read, parse, parse_line}
use Rattle.plan.specs.declared.place.Place.{Place}
use Rattle.meaning.specs.Making.{body_makes, line_makes, place_of}
use Rattle.meaning.specs.Checks.{first, body_fault, new_fault, line_fault}
use Rattle.sheet.specs.declared.line.Start.{Start}
use Rattle.sheet.specs.declared.reading.Stop.{Stop}
use Rattle.sheet.specs.Progress.{Progress, further}
use Rattle.sheet.specs.Reads.{limit, spots, Ends, begins}

-- what a constraint leaves: the first problem with its names and numbers and, without one, what it makes
pub record Leaves (q : Option ℕ) (b : Body) (p e : Progress) : Type 0 where
  pub texts : e.texts ≡ p.texts
  pub found : e.found ≡ first p.found (body_fault p.texts p.items b)
  pub items : body_fault p.texts p.items b ≡ None → e.items ≡ body_makes p.texts q b p.items

-- the rest of a form of fixed shape is read, after the name n and the form's reserved word
abbrev pub FormTells : (Option Owner → Name → ℕ → Rest) → Result (Unit {0}) Stop → Option ℕ → Name → Progress → List Placed → Progress → Type 0
FormTells after (Ok u) q n p ws e = (o : Option Owner) (c : ℕ) → (b : Body) × ((parse limit (rest (after o n c)) (spots ws) ≡ read (constraint o b)) × Leaves q b p e)
FormTells after (Err r) q n p ws e = (o : Option Owner) (c : ℕ) → Ends r (parse limit (rest (after o n c)) (spots ws))

-- two expressions and `<=` are read
abbrev pub BoundTells : Result (Unit {0}) Stop → Option ℕ → Progress → List Placed → Progress → Type 0
BoundTells (Ok u) q p ws e = (o : Option Owner) → (b : Body) × ((parse limit (need o None None []) (spots ws) ≡ read (constraint o b)) × Leaves q b p e)
BoundTells (Err r) q p ws e = (o : Option Owner) → Ends r (parse limit (need o None None []) (spots ws))

-- a reserved word that begins a declaration
abbrev pub declares : Keyword → Bool
declares Cell = true
declares Premise = true
declares In = false
declares To = false
declares Align = false
declares Apart = false

abbrev pub opened_by : Word → List Spot → Bool
opened_by (name b) ws = begins Colon ws
opened_by (number n) ws = false
opened_by (reserved k) ws = declares k
opened_by (symbol s) ws = false

-- the words are a constraint, if they are a line: they do not begin with nothing, a declaration, or a name and `:`
abbrev pub plain : List Spot → Bool
plain [] = false
plain (w ∷ ws) = not (opened_by w.word ws)

-- where a constraint may be read: after a premise and `:`, or where the line is one if it is any
abbrev pub Plain : Option Owner → List Spot → Type 0
Plain None ws = plain ws ≡ true
Plain (Some o) ws = Unit {0}

-- a constraint is read
abbrev pub BodyTells : Result (Unit {0}) Stop → Option ℕ → Progress → List Placed → Progress → Type 0
BodyTells (Ok u) q p ws e = (o : Option Owner) → Plain o (spots ws) → (b : Body) × ((parse limit (body o) (spots ws) ≡ read (constraint o b)) × Leaves q b p e)
BodyTells (Err r) q p ws e = (o : Option Owner) → Plain o (spots ws) → Ends r (parse limit (body o) (spots ws))

-- what a line leaves: the first problem with its names and numbers and, without one, what it makes
pub record LineLeaves (s : Start) (l : Line) (p e : Progress) : Type 0 where
  pub texts : e.texts ≡ p.texts
  pub found : e.found ≡ first p.found (line_fault p.texts p.items l)
  pub items : line_fault p.texts p.items l ≡ None → e.items ≡ line_makes p.texts s.text s.offset l p.items

-- each word's column is at most the length that a text may have
abbrev pub Near : List Placed → Type 0
Near ws = All (λ w. w.column ≤ 32768) ws

-- a new name is read after the word that declares it
pub record NewRead (s : Start) (p : Progress) (ws : List Placed) (x : Place) (e : Progress) : Type 0 where
  pub new : Name
  pub place : x ≡ place_of s.text s.offset new
  pub goes : (f : Name → Line) → parse limit (rest (name_next (λ n. whole (f n)))) (spots ws) ≡ read (f new)
  pub leaves : e ≡ further p (new_fault p.texts p.items new)

abbrev pub NewTells : Result Place Stop → Start → Progress → List Placed → Progress → Type 0
NewTells (Ok x) s p ws e = NewRead s p ws x e
NewTells (Err r) s p ws e = (f : Name → Line) → Ends r (parse limit (rest (name_next (λ n. whole (f n)))) (spots ws))

-- a line is read
abbrev pub LineTells : Result (Unit {0}) Stop → Start → Progress → List Placed → Progress → Type 0
LineTells (Ok u) s p ws e = (l : Line) × ((parse_line limit (spots ws) ≡ read l) × LineLeaves s l p e)
LineTells (Err r) s p ws e = Ends r (parse_line limit (spots ws))
