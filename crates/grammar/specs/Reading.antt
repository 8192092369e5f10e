-- What the reading of a line promises.
use Rattle.std.specs.Prelude.{◌≡◌, ℕ, ◌+◌, ◌≤◌, List, [], ◌∷◌, ◌++◌}
use Rattle.words.specs.declared.Symbol.TheVariants.{Colon, Plus, Open, Close, AtMost, Equals}
use Rattle.words.specs.Words.{Word, name, number, reserved, symbol, Spot}
use Rattle.grammar.specs.Tree.{Line, spell_line, deep_line}
use Rattle.grammar.specs.Parse.{read, refused, wrong, deeper, short, parse_line}

-- The reading of words is a tree that spells exactly them, and each tree whose parentheses nest little enough is the
-- reading of its words.
abbrev pub Reads : Type 0
Reads = ((lim : ℕ) (ws : List Spot) (l : Line) → parse_line lim ws ≡ read l → spell_line l ≡ ws)
    × ((lim : ℕ) (l : Line) → deep_line l ≤ lim → parse_line lim (spell_line l) ≡ read l)

-- What is read never nests deeper than it may.
abbrev pub Nests : Type 0
Nests = (lim : ℕ) (ws : List Spot) (l : Line) → parse_line lim ws ≡ read l → deep_line l ≤ lim

-- No two trees have the same words.
abbrev pub OneReading : Type 0
OneReading = (l m : Line) → spell_line l ≡ spell_line m → l ≡ m

-- Words are a line.
abbrev pub Lawful : List Spot → Type 0
Lawful ws = (l : Line) × (spell_line l ≡ ws)

-- Some line begins with these words.
abbrev pub Viable : List Spot → Type 0
Viable ws = (rest : List Spot) × Lawful (ws ++ rest)

-- Whether a word opens a parenthesis, as 1 or 0.
abbrev pub open_of : Word → ℕ
open_of (symbol Open) = 1
open_of (symbol Close) = 0
open_of (symbol Colon) = 0
open_of (symbol Plus) = 0
open_of (symbol AtMost) = 0
open_of (symbol Equals) = 0
open_of (name b) = 0
open_of (number n) = 0
open_of (reserved k) = 0

-- Whether a word closes a parenthesis, as 1 or 0.
abbrev pub close_of : Word → ℕ
close_of (symbol Close) = 1
close_of (symbol Open) = 0
close_of (symbol Colon) = 0
close_of (symbol Plus) = 0
close_of (symbol AtMost) = 0
close_of (symbol Equals) = 0
close_of (name b) = 0
close_of (number n) = 0
close_of (reserved k) = 0

-- How many parentheses some words open.
abbrev pub opens : List Spot → ℕ
opens [] = 0
opens (w ∷ ws) = open_of w.word + opens ws

-- How many parentheses some words close.
abbrev pub closes : List Spot → ℕ
closes [] = 0
closes (w ∷ ws) = close_of w.word + closes ws

-- No front of these words has more than lim parentheses open.
abbrev pub Shallow : ℕ → List Spot → Type 0
Shallow lim ws = (front more : List Spot) → ws ≡ front ++ more → opens front ≤ closes front + lim

-- The word at column c is the first that no line can have after the words before it, and none of those is too deep.
pub record FirstWrong (lim : ℕ) (ws : List Spot) (c : ℕ) : Type 0 where
  pub pre : List Spot
  pub word : Spot
  pub post : List Spot
  pub whole : ws ≡ pre ++ (word ∷ post)
  pub column_is : word.column ≡ c
  pub viable : Viable pre
  pub shallow : Shallow lim pre
  pub stuck : Viable (pre ++ (word ∷ [])) → ⊥

-- The words begin some line, are none, and none of them is too deep.
pub record TooShort (lim : ℕ) (ws : List Spot) : Type 0 where
  pub viable : Viable ws
  pub shallow : Shallow lim ws
  pub unfinished : Lawful ws → ⊥

-- The word at column c is the first that opens a parenthesis where lim are open: it may stand there but for that.
pub record FirstDeep (lim : ℕ) (ws : List Spot) (c : ℕ) : Type 0 where
  pub pre : List Spot
  pub post : List Spot
  pub whole : ws ≡ pre ++ (record { column = c; word = symbol Open } ∷ post)
  pub viable : Viable (pre ++ (record { column = c; word = symbol Open } ∷ []))
  pub full : opens pre ≡ closes pre + lim
  pub shallow : Shallow lim pre

-- A word is refused as wrong only where no line goes on so, however deep it may nest.
abbrev pub WrongWords : Type 0
WrongWords = (lim : ℕ) (ws : List Spot) (c : ℕ) → parse_line lim ws ≡ refused (wrong c) → FirstWrong lim ws c

-- Words are refused as too few only where more would make a line of them.
abbrev pub ShortLines : Type 0
ShortLines = (lim : ℕ) (ws : List Spot) → parse_line lim ws ≡ refused short → TooShort lim ws

-- A parenthesis is refused as too deep only where lim are open.
abbrev pub DeepWords : Type 0
DeepWords = (lim : ℕ) (ws : List Spot) (c : ℕ) → parse_line lim ws ≡ refused (deeper c) → FirstDeep lim ws c
