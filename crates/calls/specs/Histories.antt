-- A history: calls from a network just made, each continuing from the one before.
use Rattle.std.specs.Prelude.{◌≡◌, ℕ, ◌<◌, true, false, List, [], ◌∷◌, None}
use Rattle.facts.specs.Model.{Model}
use Rattle.facts.specs.Laws.{Exact}
use Rattle.calls.specs.Networks.{Net}
use Rattle.calls.specs.States.{State}
use Rattle.calls.specs.Refusals.{Call, clear, bring, lift, run, read, kept, begin, seek, finish}
use Rattle.calls.specs.Calls.{Answer, Does}

-- A call with its answer, and the states before and after it.
pub record Event (F : Type 0) : Type 0 where
  pub early : State F
  pub call : Call
  pub answer : Answer
  pub late : State F

-- The calls that a kind offers: begin and seek only where it is exact.
abbrev pub Offers : {F : Type 0} → Model F → Call → Type 0
Offers m (clear n) = Unit {0}
Offers m (bring p) = Unit {0}
Offers m (lift p n) = Unit {0}
Offers m (run b n) = Unit {0}
Offers m (read c n) = Unit {0}
Offers m (kept i) = Unit {0}
Offers m begin = Exact m
Offers m (seek b n) = Exact m
Offers m finish = Unit {0}

-- A network just made: no premise in force, nothing kept, no search, not cleared; its table and its agenda hold anything.
pub record Made {F : Type 0} (s : State F) : Type 0 where
  pub none_in_force : (p : ℕ) → s.force p ≡ false
  pub none_kept : s.kept ≡ []
  pub not_cleared : s.cleared ≡ false
  pub no_search : s.trail ≡ None
  pub waits_below : (j : ℕ) → s.board.waits j ≡ true → j < 512

-- Some events, the newest first, from a network just made to a state.
pub data History {F : Type 0} (m : Model F) (N : Net) : List (Event F) → State F → Type 0 where
  made : (s : State F) → Made s → History m N [] s
  calls : (es : List (Event F)) (s : State F) (c : Call) (a : Answer) (s' : State F) → History m N es s → Offers m c → Does m N s c a s' →
      History m N (record { early = s; call = c; answer = a; late = s' } ∷ es) s'
