-- The reserved words.
use Rattle.std.specs.Prelude.{ℕ, cond, List, Some, None, codes, Option}
use Rattle.std.specs.Str.{bytes_eq}
use Rattle.words.specs.declared.Keyword.{Keyword}
use Rattle.words.specs.declared.Keyword.TheVariants.{Cell, Premise, In, To, Align, Apart}

-- The reserved word that some bytes spell, in small letters.
abbrev pub keyword_of : List ℕ → Option Keyword
keyword_of w =
    cond (bytes_eq w (codes "cell")) (Some Cell)
    (cond (bytes_eq w (codes "premise")) (Some Premise)
    (cond (bytes_eq w (codes "in")) (Some In)
    (cond (bytes_eq w (codes "to")) (Some To)
    (cond (bytes_eq w (codes "align")) (Some Align)
    (cond (bytes_eq w (codes "apart")) (Some Apart) None)))))
