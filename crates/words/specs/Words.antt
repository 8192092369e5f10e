-- The words of a line, or the first fault that keeps it from having any.
use Rattle.std.specs.Prelude.{◌≡◌, ℕ, zero, suc, ◌+◌, ◌-◌, ◌*◌, Bool, cond, List, [], ◌∷◌, map, length, Some, None, Ok, Err, vec_items, Option, Result, Vec, ◌==◌, nat_le, nat_lt, slice_index}
use Rattle.std.specs.List.{take_while}
use Rattle.std.specs.declared.alloc.Global.{Global}
use Rattle.words.specs.declared.Keyword.{Keyword}
use Rattle.words.specs.declared.Symbol.{Symbol}
use Rattle.words.specs.declared.Symbol.TheVariants.{Colon, Plus, Open, Close, AtMost, Equals}
use Rattle.words.specs.declared.Slip.{Slip}
use Rattle.words.specs.declared.Slip.TheVariants.{Byte, Large, Long}
use Rattle.words.specs.declared.Token.{Token}
use Rattle.words.specs.declared.Token.TheVariants as token
use Rattle.words.specs.declared.Front.{Front}
use Rattle.words.specs.declared.Front.TheVariants as begun
use Rattle.words.specs.declared.Placed.{Placed}
use Rattle.words.specs.declared.ReadError.{ReadError}
use Rattle.words.specs.declared.ReadError.TheVariants.{Memory, Fault}
use Rattle.words.specs.Class.{between, class_of, is_class}
use Rattle.words.specs.Keywords.{keyword_of}

-- A byte's class is from k to 2: names are made of bytes from class 1 on, numbers of bytes of class 2.
abbrev pub solid : ℕ → ℕ → Bool
solid k b = between k 2 (class_of b)

-- The number that digits write after the digits of n.
abbrev pub decimal_after : ℕ → List ℕ → ℕ
decimal_after n [] = n
decimal_after n (d ∷ ds) = decimal_after (n * 10 + (d - 48)) ds

-- The number that digits write.
abbrev pub decimal : List ℕ → ℕ
decimal ds = decimal_after 0 ds

-- The largest number that a word may be.
abbrev pub top : ℕ
top = 4294967295

-- A number, absent above the largest.
abbrev pub up_to : ℕ → Option ℕ
up_to n = cond (nat_le n top) (Some n) None

-- The most bytes that a name may have.
abbrev pub longest : ℕ
longest = 16

-- A word: a name by its bytes, a number by its value, or one of the reserved words or symbols.
pub data Word : Type 0 where
  name : List ℕ → Word
  number : ℕ → Word
  reserved : Keyword → Word
  symbol : Symbol → Word

-- The word that a token of the code stands for.
abbrev pub meant : Token → Word
meant (token.Name r) = name r.now
meant (token.Number n) = number n
meant (token.Reserved k) = reserved k
meant (token.Symbol s) = symbol s

-- What the rest of a line begins with: a gap of one byte, a word of so many bytes, or a fault so many bytes on.
pub data Start : Type 0 where
  gap : Start
  word : ℕ → Word → Start
  bad : ℕ → Slip → Start

-- The beginning that the code's answer stands for.
abbrev pub meant_front : Front → Start
meant_front begun.Space = gap
meant_front (begun.Word t n) = word n (meant t)
meant_front (begun.Bad s n) = bad n s

-- The symbol of one byte.
abbrev pub symbol_of : ℕ → Symbol
symbol_of b =
    cond (b == 58) Colon (cond (b == 43) Plus (cond (b == 40) Open (cond (b == 41) Close Equals)))

-- A reserved word where there is one, else the name.
abbrev pub or_name : Option Keyword → List ℕ → Word
or_name (Some k) w = reserved k
or_name None w = name w

-- Bytes that could be a name: a reserved word, or a name unless it is too long.
abbrev pub name_at : List ℕ → Start
name_at w = cond (nat_lt longest (length w)) (bad 0 Long) (word (length w) (or_name (keyword_of w) w))

-- A number of digits w at the front of s: too large, or followed straight by a letter, or a word.
abbrev pub number_at : List ℕ → List ℕ → Start
number_at w s =
    cond (nat_lt top (decimal w)) (bad 0 Large)
    (cond (is_class 1 (slice_index s (length w))) (bad (length w) Byte) (word (length w) (number (decimal w))))

-- A symbol from its first byte and the next one: `<` is one only with `=` straight after it.
abbrev pub symbol_at : ℕ → ℕ → Start
symbol_at b next = cond (b == 60) (cond (next == 61) (word 2 (symbol AtMost)) (bad 0 Byte)) (word 1 (symbol (symbol_of b)))

-- What the rest of a line begins with, by the class of its first byte.
abbrev pub front_of : List ℕ → Start
front_of [] = gap
front_of (b ∷ s) =
    cond (is_class 1 b) (name_at (take_while (solid 1) (b ∷ s)))
    (cond (is_class 2 b) (number_at (take_while (solid 2) (b ∷ s)) (b ∷ s))
    (cond (is_class 3 b) gap (cond (is_class 4 b) gap (cond (is_class 5 b) (symbol_at b (slice_index s 0)) (bad 0 Byte)))))

-- A word and its column, counted from 1.
pub record Spot : Type 0 where
  pub column : ℕ
  pub word : Word

-- A word before what is read after it.
abbrev pub before : Spot → Result (List Spot) (Slip × ℕ) → Result (List Spot) (Slip × ℕ)
before w (Ok ws) = Ok (w ∷ ws)
before w (Err f) = Err f

-- How a line that begins so at a column is read, where the reading of the rest leaves out the bytes of the word.
abbrev pub onward : ℕ → Start → (ℕ → Result (List Spot) (Slip × ℕ)) → Result (List Spot) (Slip × ℕ)
onward col gap more = more 0
onward col (word n w) more = before (record { column = col; word = w }) (more (n - 1))
onward col (bad n f) more = Err (f, col + n)

-- The words from a column on, where so many bytes belong to a word that is read already.
abbrev pub words_from : ℕ → ℕ → List ℕ → Result (List Spot) (Slip × ℕ)
words_from skip col [] = Ok []
words_from zero col (b ∷ s) = onward col (front_of (b ∷ s)) (λ skip. words_from skip (col + 1) s)
words_from (suc k) col (b ∷ s) = words_from k (col + 1) s

-- The words of a line, or its first fault with its column.
abbrev pub words_of : List ℕ → Result (List Spot) (Slip × ℕ)
words_of line = words_from 0 1 line

-- The word and column that the code's pair stands for.
abbrev pub spot : Placed → Spot
spot p = record { column = p.column; word = meant p.token }

-- The reader's answer tells the words of a line or its fault; want of memory tells nothing.
abbrev pub Tells : Result (Vec Placed Global) ReadError → Result (List Spot) (Slip × ℕ) → Type 0
Tells (Ok v) w = w ≡ Ok (map spot (vec_items v))
Tells (Err Memory) w = Unit {0}
Tells (Err (Fault s c)) w = w ≡ Err (s, c)
