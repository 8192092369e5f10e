-- A move of a search, and seek: which moves it makes and what it answers.
use Rattle.std.specs.Prelude.{◌≡◌, ℕ, suc, ◌<◌, ◌≤◌, true, false, cond, ◌⊎◌, List, [], ◌∷◌, length, ℤ, ◌<ℤ◌, Some}
use Rattle.sets.specs.Members.{Members, Nobody}
use Rattle.facts.specs.Model.{Model}
use Rattle.facts.specs.Derived.{low, high, none}
use Rattle.plan.specs.Placements.{Premises}
use Rattle.telling.specs.Reasons.{Reasons, guess}
use Rattle.telling.specs.Tables.{Table, facts, changed}
use Rattle.telling.specs.Telling.{after_told}
use Rattle.telling.specs.Stable.{One}
use Rattle.calls.specs.Networks.{Net}
use Rattle.calls.specs.Boards.{Board, woken, reset}
use Rattle.calls.specs.Running.{premises_of, Clean, Lowest, after_step}
use Rattle.calls.specs.Trails.{guessed, Trail, guesses, guess_at, holds_from, jump_trail, Word, word_of, words}

-- A board and the trail of the search that is open on it.
pub record Search (F : Type 0) : Type 0 where
  pub board : Board F
  pub trail : Trail

-- What a move comes to: a conflict for reasons without an open guess, another board and trail, every cell settled, or no room for a guess.
pub data Verdict (F : Type 0) : Type 0 where
  dead : Reasons → Verdict F
  moved : Search F → Verdict F
  settled : Verdict F
  cramped : Verdict F

-- What seek answers: the cells' numbers are a placement; no placement meets these premises; no room for a guess; or the budget is spent.
pub data Finding : Type 0 where
  found : Finding
  none_left : Premises → Finding
  full : Finding
  spent : Finding

-- The cells that a search must settle: today all of them.
abbrev pub MustSettle : Net → ℕ → Type 0
MustSettle N x = x < N.cells

-- g is the highest open guess among the reasons, for cell c at n.
pub record Highest (t : Trail) (r : Reasons) (g c : ℕ) (n : ℤ) : Type 0 where
  pub held : r (guess g) ≡ true
  pub none_higher : (j : ℕ) → g < j → j < guesses t → r (guess j) ≡ false
  pub guess_is : guess_at g t ≡ Some (c, n)

-- No open guess is among the reasons.
abbrev pub NoGuess : Trail → Reasons → Type 0
NoGuess t r = (j : ℕ) → j < guesses t → r (guess j) ≡ false

-- There is no room for a guess: 32 are open, or the trail has 512 entries.
abbrev pub NoRoom : Trail → Type 0
NoRoom t = (32 ≤ guesses t) ⊎ (512 ≤ length t)

module _ {F : Type 0} (m : Model F) where
  -- The table after one word.
  abbrev pub after_word : Word → Table F → Table F
  after_word w T = after_told m w.cell (m.stated w.says) w.reasons T

  -- The table after some words, told in their order until one leaves its cell in conflict.
  unfoldable pub after_words : List Word → Table F → Table F
  after_words [] T = T
  after_words (w ∷ ws) T =
      let T' = after_word w T in
      cond (none m (T' w.cell).fact) T' (after_words ws T')

  -- The cell allows more than one number.
  abbrev pub Wide : Table F → ℕ → Type 0
  Wide T x = low m (T x).fact <ℤ high m (T x).fact

module _ {F : Type 0} (m : Model F) (N : Net) (force : Premises) where
  -- The search after a jump for reasons r to guess g, which was for cell c at n: cells whose reasons hold g or a higher guess are back at their start and the constraints in force that name them wait; then all that the new trail says is told until a conflict.
  unfoldable pub after_jump : Reasons → (g c : ℕ) → ℤ → Search F → Search F
  after_jump r g c n q =
      let T = q.board.table in
      let t = jump_trail r g c n q.trail in
      let back : Members = λ x. holds_from g (T x).reasons in
      let T₁ = reset m back T in
      let T₂ = after_words m (words t) T₁ in
      record {
        board = record { table = T₂; waits = woken N force (changed m T₁ T₂) (woken N force back q.board.waits) };
        trail = t;
      }

  -- The search after a guess that cell c is its lowest number.
  unfoldable pub after_guess : ℕ → Search F → Search F
  after_guess c q =
      let T = q.board.table in
      let e = guessed c (low m (T c).fact) in
      let T' = after_word m (word_of (guesses q.trail) e) T in
      record {
        board = record { table = T'; waits = woken N force (changed m T T') q.board.waits };
        trail = e ∷ q.trail;
      }

  -- One move, by the first of these that applies: a conflict without an open guess, a jump, a step, every cell settled, no room, a guess.
  pub data Move : Search F → Verdict F → Type 0 where
    dies : (q : Search F) (x : ℕ) → Lowest m N q.board.table x → NoGuess q.trail (q.board.table x).reasons → Move q (dead (q.board.table x).reasons)
    jumps : (q : Search F) (x g c : ℕ) (n : ℤ) → Lowest m N q.board.table x → Highest q.trail (q.board.table x).reasons g c n →
        Move q (moved (after_jump (q.board.table x).reasons g c n q))
    steps : (q : Search F) (j : ℕ) → Clean m N q.board.table → q.board.waits j ≡ true → Move q (moved (record { board = after_step m N force j q.board; trail = q.trail }))
    settles : (q : Search F) → Clean m N q.board.table → Nobody q.board.waits → ((x : ℕ) → MustSettle N x → One m (facts q.board.table) x) → Move q settled
    crowds : (q : Search F) (c : ℕ) → Clean m N q.board.table → Nobody q.board.waits → MustSettle N c → Wide m q.board.table c → NoRoom q.trail → Move q cramped
    guesses_at : (q : Search F) (c : ℕ) → Clean m N q.board.table → Nobody q.board.waits → MustSettle N c → Wide m q.board.table c →
        ((y : ℕ) → y < c → MustSettle N y → One m (facts q.board.table) y) → guesses q.trail < 32 → length q.trail < 512 → Move q (moved (after_guess c q))

  -- Exactly n moves lead from one search to another.
  pub data Moves : ℕ → Search F → Search F → Type 0 where
    still : (q : Search F) → Moves 0 q q
    move : (n : ℕ) (q q₁ q' : Search F) → Move q (moved q₁) → Moves n q₁ q' → Moves (suc n) q q'

  -- A seek with a budget, from a search to its answer, the moves made and the search then. None, found and full are answered before spent.
  pub data Seek : (budget : ℕ) → Search F → Finding → (moves : ℕ) → Search F → Type 0 where
    fails : (i : ℕ) (q : Search F) (r : Reasons) → Move q (dead r) → Seek i q (none_left (premises_of r)) 0 q
    finds : (i : ℕ) (q : Search F) → Move q settled → Seek i q found 0 q
    fills : (i : ℕ) (q : Search F) → Move q cramped → Seek i q full 0 q
    tires : (q q₁ : Search F) → Move q (moved q₁) → Seek 0 q spent 0 q
    moves : (i n : ℕ) (q q₁ q' : Search F) (o : Finding) → Move q (moved q₁) → Seek i q₁ o n q' → Seek (suc i) q o (suc n) q'
