-- Words stand in the line that they are the words of.
use Rattle.std.specs.Prelude.{◌≡◌, ℕ, ◌-◌, ◌<◌, ◌≤◌, List, [], ◌∷◌, length, take, drop, Ok}
use Rattle.std.specs.List.{All}
use Rattle.words.specs.Words.{Word, name, number, reserved, symbol, Spot, longest, top, words_of}

-- A name is the part of the line at its column and no longer than a name may be, a number no larger than a word may be.
abbrev pub WordAt : List ℕ → ℕ → Word → Type 0
WordAt line c (name b) = (take (length b) (drop (c - 1) line) ≡ b) × (length b ≤ longest)
WordAt line c (number n) = n ≤ top
WordAt line c (reserved k) = Unit {0}
WordAt line c (symbol s) = Unit {0}

-- A word stands in the line, and is the line's own bytes there where it is a name.
pub record Stands (line : List ℕ) (s : Spot) : Type 0 where
  pub after_start : 0 < s.column
  pub before_end : s.column ≤ length line
  pub spelled : WordAt line s.column s.word

-- The columns rise from word to word, all of them above c.
abbrev pub Rising : ℕ → List Spot → Type 0
Rising c [] = Unit {0}
Rising c (w ∷ ws) = (c < w.column) × Rising w.column ws

-- Each word of a line stands in it.
abbrev pub WordsStand : Type 0
WordsStand = (line : List ℕ) (ws : List Spot) → words_of line ≡ Ok ws → All (Stands line) ws

-- The words of a line stand in it one after the other.
abbrev pub WordsRise : Type 0
WordsRise = (line : List ℕ) (ws : List Spot) → words_of line ≡ Ok ws → Rising 0 ws
