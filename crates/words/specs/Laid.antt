-- Which lines have which words: how words are written, what stands between them, and what is no word.
use Rattle.std.specs.Prelude.{◌≡◌, ℕ, ◌+◌, ◌<◌, ◌≤◌, true, false, List, [], ◌∷◌, ◌++◌, length, Some, None, Ok, Err, codes, ◌==◌, slice_index}
use Rattle.std.specs.List.{AllPass}
use Rattle.words.specs.declared.Symbol.{Symbol}
use Rattle.words.specs.declared.Symbol.TheVariants.{Colon, Plus, Open, Close, AtMost, Equals}
use Rattle.words.specs.declared.Slip.{Slip}
use Rattle.words.specs.declared.Slip.TheVariants.{Byte, Large, Long}
use Rattle.words.specs.Class.{between, class_of, is_class}
use Rattle.words.specs.Keywords.{keyword_of}
use Rattle.words.specs.Words.{solid, decimal, top, longest, Word, name, number, reserved, symbol, Spot, words_of}

-- Bytes of classes 1 and 2, the first of class 1.
pub record Lettered (s : List ℕ) : Type 0 where
  pub begins : is_class 1 (slice_index s 0) ≡ true
  pub made : AllPass (solid 1) s

-- One or more digits.
pub record Digits (s : List ℕ) : Type 0 where
  pub some : 0 < length s
  pub made : AllPass (solid 2) s

-- The bytes of a symbol.
abbrev pub symbol_bytes : Symbol → List ℕ
symbol_bytes Colon = codes ":"
symbol_bytes Plus = codes "+"
symbol_bytes Open = codes "("
symbol_bytes Close = codes ")"
symbol_bytes AtMost = codes "<="
symbol_bytes Equals = codes "="

-- Bytes write a word: a name is not reserved and has at most 16 bytes, and a number is at most the largest.
abbrev pub Written : Word → List ℕ → Type 0
Written (name b) s = (s ≡ b) × Lettered s × (length s ≤ longest) × (keyword_of s ≡ None)
Written (number n) s = Digits s × (decimal s ≡ n) × (n ≤ top)
Written (reserved k) s = Lettered s × (length s ≤ longest) × (keyword_of s ≡ Some k)
Written (symbol y) s = s ≡ symbol_bytes y

-- What may stand straight after a word: no letter or digit, except after a symbol. At the end of a line there is none.
abbrev pub Ended : Word → List ℕ → Type 0
Ended (name b) s = solid 1 (slice_index s 0) ≡ false
Ended (number n) s = solid 1 (slice_index s 0) ≡ false
Ended (reserved k) s = solid 1 (slice_index s 0) ≡ false
Ended (symbol y) s = Unit {0}

-- `Laid c s ws d r`: from column c on, the bytes s are the words ws with bytes of classes 3 and 4 around them, and then,
-- from column d on, the bytes r.
pub data Laid : ℕ → List ℕ → List Spot → ℕ → List ℕ → Type 0 where
  end : (c : ℕ) (s : List ℕ) → Laid c s [] c s
  space : (c b : ℕ) (s : List ℕ) (ws : List Spot) (d : ℕ) (r : List ℕ) → between 3 4 (class_of b) ≡ true → Laid (c + 1) s ws d r → Laid c (b ∷ s) ws d r
  word : (c : ℕ) (w : Word) (bytes s : List ℕ) (ws : List Spot) (d : ℕ) (r : List ℕ) → Written w bytes → Ended w s → Laid (c + length bytes) s ws d r → Laid c (bytes ++ s) (record { column = c; word = w } ∷ ws) d r

-- `Faulty s f n`: where a word could begin, the bytes s have the fault f, reported n bytes on.
pub data Faulty : List ℕ → Slip → ℕ → Type 0 where
  -- a byte of class 0
  foreign : (b : ℕ) (s : List ℕ) → is_class 0 b ≡ true → Faulty (b ∷ s) Byte 0
  -- `<` without `=` straight after it
  less : (s : List ℕ) → (slice_index s 0 == 61) ≡ false → Faulty (60 ∷ s) Byte 0
  -- a letter straight after a number
  letter : (digits : List ℕ) (b : ℕ) (s : List ℕ) → Digits digits → decimal digits ≤ top → is_class 1 b ≡ true → Faulty (digits ++ (b ∷ s)) Byte (length digits)
  -- a number above the largest
  large : (digits s : List ℕ) → Digits digits → solid 2 (slice_index s 0) ≡ false → top < decimal digits → Faulty (digits ++ s) Large 0
  -- a name over 16 bytes
  long : (bytes s : List ℕ) → Lettered bytes → solid 1 (slice_index s 0) ≡ false → longest < length bytes → Faulty (bytes ++ s) Long 0

-- A line is just these words.
pub record Words (line : List ℕ) (ws : List Spot) : Type 0 where
  pub past : ℕ
  pub laid : Laid 1 line ws past []

-- After some words a line has this fault, at this column.
pub record Fails (line : List ℕ) (f : Slip) (c : ℕ) : Type 0 where
  pub before : List Spot
  pub at : ℕ
  pub bytes : List ℕ
  pub on : ℕ
  pub laid : Laid 1 line before at bytes
  pub faulty : Faulty bytes f on
  pub column_is : at + on ≡ c

-- A line has the words that it is laid out as, and no others.
abbrev pub ExactWords : Type 0
ExactWords = (line : List ℕ) (ws : List Spot) → (words_of line ≡ Ok ws → Words line ws) × (Words line ws → words_of line ≡ Ok ws)

-- A line is refused for the fault that stands after its words, and for no other.
abbrev pub ExactFaults : Type 0
ExactFaults = (line : List ℕ) (f : Slip) (c : ℕ) → (words_of line ≡ Err (f, c) → Fails line f c) × (Fails line f c → words_of line ≡ Err (f, c))
