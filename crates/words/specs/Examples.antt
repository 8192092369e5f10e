-- The words of some lines, and the faults of others.
use Rattle.std.specs.Prelude.{◌≡◌, ℕ, List, [], ◌∷◌, Ok, Err, codes}
use Rattle.words.specs.declared.Keyword.TheVariants.{Cell}
use Rattle.words.specs.declared.Symbol.TheVariants.{Colon, Plus, AtMost, Equals}
use Rattle.words.specs.declared.Slip.{Slip}
use Rattle.words.specs.declared.Slip.TheVariants.{Byte, Large, Long}
use Rattle.words.specs.Words.{Word, name, number, reserved, symbol, Spot, words_of}

-- A word at a column.
abbrev pub put : ℕ → Word → Spot
put c w = record { column = c; word = w }

-- A line has just these words.
abbrev pub Has : List ℕ → List Spot → Type 0
Has line ws = words_of line ≡ Ok ws

-- The first fault of a line, and its column.
abbrev pub Fails : List ℕ → Slip → ℕ → Type 0
Fails line f c = words_of line ≡ Err (f, c)

-- Words need no space between them where they cannot run together, and the longest is taken: `<==` is `<=` and `=`.
abbrev pub ReadLines : Type 0
ReadLines =
    Has (codes "  ") []
    × Has (codes "p:a1+30<=b")
    (put 1 (name (codes "p")) ∷ put 2 (symbol Colon) ∷ put 3 (name (codes "a1")) ∷ put 5 (symbol Plus) ∷ put 6 (number 30)
    ∷ put 8 (symbol AtMost) ∷ put 10 (name (codes "b")) ∷ [])
    × Has (codes "<==") (put 1 (symbol AtMost) ∷ put 3 (symbol Equals) ∷ [])
    × Has (codes "cell Cell") (put 1 (reserved Cell) ∷ put 6 (name (codes "Cell")) ∷ [])
    × Has (codes "4294967295") (put 1 (number 4294967295) ∷ [])
    × Has (codes "00000000000000000007") (put 1 (number 7) ∷ [])
    × Has (codes "abcdefghijklmnop") (put 1 (name (codes "abcdefghijklmnop")) ∷ [])

-- Faults go by the column that they report, and where two share one it is the byte's.
abbrev pub FaultyLines : Type 0
FaultyLines =
    Fails (97 ∷ 9 ∷ []) Byte 2
    × Fails (97 ∷ 13 ∷ []) Byte 2
    × Fails (200 ∷ []) Byte 1
    × Fails (codes "a < = b") Byte 3
    × Fails (codes "12x") Byte 3
    × Fails (codes "4294967296") Large 1
    × Fails (codes "99999999999x") Large 1
    × Fails (codes "abcdefghijklmnopq #") Long 1
    × Fails (codes "1abcdefghijklmnopq") Byte 2
