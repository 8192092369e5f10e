-- What the readers of a line answer: how the reading of the whole line goes on, whatever stands around.
use Rattle.std.specs.Prelude.{◌≡◌, ℕ, ◌<◌, Bool, false, List, [], ◌∷◌, map, length, None, Ok, Err, Option, Result, ◌==◌}
use Rattle.std.specs.Borrow.{Bor}
use Rattle.words.specs.declared.Placed.{Placed}
use Rattle.words.specs.declared.Symbol.{Symbol}
use Rattle.words.specs.declared.Symbol.TheVariants.{Colon, Plus, Open, Close, AtMost, Equals}
use Rattle.words.specs.Words.{Word, name, number, reserved, symbol, Spot, spot}
use Rattle.grammar.specs.Tree.{Expr, Term, Owner}
use Rattle.grammar.specs.Parse.{Pending, Side, Stack, need, have, Outcome, refused, wrong, deeper, short, join, parse}
use Rattle.sheet.specs.declared.reading.Stop.{Stop}
use Rattle.sheet.specs.declared.reading.Stop.TheVariants as stop
use Rattle.sheet.specs.Growing.{grows, grows_term}
use Rattle.sheet.specs.Progress.{Progress}

-- parentheses nest at most so deep
abbrev pub limit : ℕ
limit = 16

-- the words that the reader's list stands for
abbrev pub spots : List Placed → List Spot
spots = map spot

-- a refusal is how the line ends; want of memory tells nothing
abbrev pub Ends : Stop → Outcome → Type 0
Ends stop.Memory r = Unit {0}
Ends (stop.Word c) r = r ≡ refused (wrong c)
Ends (stop.Deep c) r = r ≡ refused (deeper c)
Ends stop.Short r = r ≡ refused short

-- the place of a symbol among the symbols
abbrev pub place_of : Symbol → ℕ
place_of Colon = 0
place_of Plus = 1
place_of Open = 2
place_of Close = 3
place_of AtMost = 4
place_of Equals = 5

-- a word is that symbol
abbrev pub marks : Symbol → Word → Bool
marks s (name b) = false
marks s (number n) = false
marks s (reserved k) = false
marks s (symbol m) = place_of m == place_of s

-- the first of the words is that symbol
abbrev pub begins : Symbol → List Spot → Bool
begins s [] = false
begins s (w ∷ ws) = marks s w.word

-- with so many parentheses open, whatever stands around, the line ends in a refusal where a term is needed
pub record Halts (depth : ℕ) (w : Pending) (ws : List Placed) (r : Stop) : Type 0 where
  pub ends : (o : Option Owner) (s : Side) (σ : Stack) → length σ ≡ depth → Ends r (parse limit (need o s w σ) (spots ws))

-- likewise, a term is read from the first words on, up to the others
pub record ReadsTerm (depth : ℕ) (p : Progress) (ws : List Placed) (c : ℕ) (e : Progress) (vs : List Placed) : Type 0 where
  pub tree : Term
  pub goes : (o : Option Owner) (s : Side) (w : Pending) (σ : Stack) → length σ ≡ depth → parse limit (need o s w σ) (spots ws) ≡ parse limit (have o s (join w tree) σ) (spots vs)
  pub cell_is : c ≡ (grows_term tree p).cell
  pub then_is : e ≡ (grows_term tree p).then

-- likewise, an expression
pub record ReadsExpr (depth : ℕ) (p : Progress) (ws : List Placed) (c : ℕ) (e : Progress) (vs : List Placed) : Type 0 where
  pub tree : Expr
  pub goes : (o : Option Owner) (s : Side) (σ : Stack) → length σ ≡ depth → parse limit (need o s None σ) (spots ws) ≡ parse limit (have o s tree σ) (spots vs)
  pub cell_is : c ≡ (grows tree p).cell
  pub then_is : e ≡ (grows tree p).then

-- what the term reader answers
abbrev pub TermTells : Result (ℕ × Bor (List Placed)) Stop → Progress → List Placed → ℕ → Progress → Type 0
TermTells (Ok a) p ws depth e = (length a.1.now < length ws) × ReadsTerm depth p ws a.0 e a.1.now
TermTells (Err r) p ws depth e = (w : Pending) → Halts depth w ws r

-- what the expression reader answers
abbrev pub ExpressionTells : Result (ℕ × Bor (List Placed)) Stop → Progress → List Placed → ℕ → Progress → Type 0
ExpressionTells (Ok a) p ws depth e = (length a.1.now < length ws) × (begins Plus (spots a.1.now) ≡ false) × ReadsExpr depth p ws a.0 e a.1.now
ExpressionTells (Err r) p ws depth e = Halts depth None ws r
