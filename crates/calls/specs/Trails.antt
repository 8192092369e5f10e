-- The trail of a search: its guesses and forced entries, what each says, and what a jump makes of it.
use Rattle.std.specs.Prelude.{ℕ, suc, Bool, false, cond, not, ◌&&◌, List, [], ◌∷◌, ◌++◌, ℤ, pos, ◌+ℤ◌, Some, None, Option, ◌==◌, nat_le}
use Rattle.statements.specs.Numbers.{top, bottom}
use Rattle.statements.specs.declared.statement.Statement.{Statement}
use Rattle.statements.specs.declared.statement.Statement.TheVariants.{Between}
use Rattle.telling.specs.Reasons.{Tag, premise, guess, Reasons}
use Rattle.calls.specs.Boards.{any_below}

-- An entry: the guess that a cell is at most m, or that a cell is at least m, forced for some reasons.
pub data Entry : Type 0 where
  guessed : (cell : ℕ) (m : ℤ) → Entry
  forced : (cell : ℕ) (m : ℤ) (reasons : Reasons) → Entry

-- The entries, the newest first.
abbrev pub Trail : Type 0
Trail = List Entry

-- How many guesses are open. A guess is numbered by those open before it.
abbrev pub guesses : Trail → ℕ
guesses [] = 0
guesses (guessed c m ∷ es) = suc (guesses es)
guesses (forced c m r ∷ es) = guesses es

-- The cell and the number of guess g.
abbrev pub guess_at : ℕ → Trail → Option (ℕ × ℤ)
guess_at g [] = None
guess_at g (guessed c m ∷ es) = cond (g == guesses es) (Some (c, m)) (guess_at g es)
guess_at g (forced c m r ∷ es) = guess_at g es

-- The trail before guess g: it loses that entry and all after it.
abbrev pub before : ℕ → Trail → Trail
before g [] = []
before g (guessed c m ∷ es) = cond (g == guesses es) es (before g es)
before g (forced c m r ∷ es) = before g es

-- The trail with a forced entry added; it replaces the newest entry if that is a forced one on the same cell.
abbrev pub forcing : ℕ → ℤ → Reasons → Trail → Trail
forcing c m r [] = forced c m r ∷ []
forcing c m r (guessed d n ∷ es) = forced c m r ∷ guessed d n ∷ es
forcing c m r (forced d n q ∷ es) = cond (c == d) (forced c m r ∷ es) (forced c m r ∷ forced d n q ∷ es)

-- Is it guess g?
abbrev pub is_guess : ℕ → Tag → Bool
is_guess g (premise p) = false
is_guess g (guess j) = g == j

-- The reasons without guess g.
abbrev pub without_guess : ℕ → Reasons → Reasons
without_guess g r t = not (is_guess g t) && r t

-- Do the reasons hold guess g or a higher one?
abbrev pub holds_from : ℕ → Reasons → Bool
holds_from g r = any_below 32 (λ j. nat_le g j && r (guess j))

-- The trail after a jump for reasons r to guess g, which was for cell c at m.
abbrev pub jump_trail : Reasons → (g c : ℕ) → ℤ → Trail → Trail
jump_trail r g c m t = forcing c (m +ℤ pos 1) (without_guess g r) (before g t)

-- What a cell is told, and for which reasons.
pub record Word : Type 0 where
  pub cell : ℕ
  pub says : Statement
  pub reasons : Reasons

-- What an entry says with g guesses open before it: a guess for itself alone, a forced entry for its reasons.
abbrev pub word_of : ℕ → Entry → Word
word_of g (guessed c m) = record { cell = c; says = Between bottom m; reasons = is_guess g }
word_of g (forced c m r) = record { cell = c; says = Between m top; reasons = r }

-- What the entries of a trail say, the oldest first.
unfoldable pub words : Trail → List Word
words [] = []
words (e ∷ es) = words es ++ (word_of (guesses es) e ∷ [])
