-- How some lines are read, at most 16 parentheses deep.
use Rattle.std.specs.Prelude.{◌≡◌, ℕ, List, Some, None, Ok, Err, codes, Result}
use Rattle.words.specs.declared.Slip.{Slip}
use Rattle.words.specs.Words.{Spot, words_of}
use Rattle.grammar.specs.Tree.{Name, Number, one, plus, named, counted, group, within, aligned, apart, at_most, Line, blank, cell, constraint}
use Rattle.grammar.specs.Parse.{Refusal, wrong, deeper, short, Outcome, read, refused, parse_line}

-- What words are read as, where a line has words.
abbrev pub parsed : Result (List Spot) (Slip × ℕ) → Result Outcome (Slip × ℕ)
parsed (Ok ws) = Ok (parse_line 16 ws)
parsed (Err f) = Err f

-- The reading of a line of bytes.
abbrev pub Is : List ℕ → Line → Type 0
Is line l = parsed (words_of line) ≡ Ok (read l)

-- The refusal of a line of bytes.
abbrev pub Fails : List ℕ → Refusal → Type 0
Fails line r = parsed (words_of line) ≡ Ok (refused r)

-- A name at a column.
abbrev pub name_at : ℕ → List ℕ → Name
name_at c b = record { column = c; bytes = b }

-- A number at a column.
abbrev pub number_at : ℕ → ℕ → Number
number_at c n = record { column = c; value = n }

-- Each form has its tree, and `+` joins from the left.
abbrev pub ReadLines : Type 0
ReadLines =
    Is (codes " ") blank
    × Is (codes "cell a") (cell 1 (name_at 6 (codes "a")))
    × Is (codes "a in 1 to 2") (constraint None (within (name_at 1 (codes "a")) 3 (number_at 6 1) 8 (number_at 11 2)))
    × Is (codes "p:a align 2 1")
    (constraint (Some (record { premise = name_at 1 (codes "p"); colon = 2 })) (aligned (name_at 3 (codes "a")) 5 (number_at 11 2) (number_at 13 1)))
    × Is (codes "a apart 4 b 8") (constraint None (apart (name_at 1 (codes "a")) 3 (number_at 9 4) (name_at 11 (codes "b")) (number_at 13 8)))
    × Is (codes "a+b+3<=(b)")
    (constraint None
    (at_most
    (plus (plus (one (named (name_at 1 (codes "a")))) 2 (named (name_at 3 (codes "b")))) 4 (counted (number_at 5 3))) 6
    (one (group 8 (one (named (name_at 9 (codes "b")))) 10))))

-- A word is refused where no line goes on with it, a short line for what it lacks, and the seventeenth parenthesis.
abbrev pub RefusedLines : Type 0
RefusedLines =
    Fails (codes "(a) in 1 to 2") (wrong 5)
    × Fails (codes "p : q : a <= b") (wrong 7)
    × Fails (codes "p : cell x") (wrong 5)
    × Fails (codes "cell in") (wrong 6)
    × Fails (codes "cell x y") (wrong 8)
    × Fails (codes "a = b") (wrong 3)
    × Fails (codes "a <= b <= c") (wrong 8)
    × Fails (codes "a in 1 to") short
    × Fails (codes "p :") short
    × Fails (codes "a + (b <= c") (wrong 8)
    × Fails (codes "(((((((((((((((((a") (deeper 17)
    × Fails (codes "a (((((((((((((((((") (wrong 3)
