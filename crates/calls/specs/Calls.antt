-- What each call does: the answer, and the state afterwards.
use Rattle.std.specs.Prelude.{◌≡◌, ℕ, Bool, true, false, cond, ◌||◌, [], ℤ, Some, None, Option}
use Rattle.std.specs.List.{slice_get}
use Rattle.sets.specs.Members.{Members, count}
use Rattle.facts.specs.Model.{Model}
use Rattle.facts.specs.Derived.{low, high, none}
use Rattle.plan.specs.Placements.{Premises, owned_by}
use Rattle.plan.specs.declared.constraint.Constraint.{Constraint}
use Rattle.telling.specs.Reasons.{Reasons, premise}
use Rattle.telling.specs.Tables.{Cell, Table, upd, start_cell}
use Rattle.calls.specs.Networks.{Net, in_force}
use Rattle.calls.specs.Boards.{Board, woken, reset}
use Rattle.calls.specs.Running.{Outcome, Run}
use Rattle.calls.specs.Trails.{Trail, guesses}
use Rattle.calls.specs.Searching.{Search, Finding, Seek}
use Rattle.calls.specs.Keeping.{keep_run, keep_seek}
use Rattle.calls.specs.States.{State}
use Rattle.calls.specs.Refusals.{Call, clear, bring, lift, run, read, kept, begin, seek, finish, Refusal, refusal}

-- What a call answers.
pub data Answer : Type 0 where
  refused : Refusal → Answer
  done : Answer
  lifted : (cells : ℕ) → Answer
  ran : Outcome → (steps : ℕ) → Answer
  shown : (ends : Option (ℤ × ℤ)) → Reasons → Answer
  listed : Premises → Answer
  sought : Finding → (moves : ℕ) → Answer
  finished : (guesses : ℕ) → Answer

-- Is there such a constraint, and is it in force?
abbrev pub standing : Premises → Option Constraint → Bool
standing force None = false
standing force (Some k) = in_force force k

-- Is there such a constraint, and does the premise own it?
abbrev pub belongs : ℕ → Option Constraint → Bool
belongs p None = false
belongs p (Some k) = owned_by k.owner p

module _ {F : Type 0} (m : Model F) (N : Net) where
  -- Every cell at its start, and exactly the constraints in force waiting.
  unfoldable pub clear_board : Premises → Board F
  clear_board force = record { table = λ x. start_cell m; waits = λ j. standing force (slice_get N.constraints j) }

  -- The constraints of premise p wait as well.
  unfoldable pub bring_board : ℕ → Board F → Board F
  bring_board p b = record { table = b.table; waits = λ j. b.waits j || belongs p (slice_get N.constraints j) }

  -- The cells whose reasons hold premise p.
  abbrev pub resting : ℕ → Table F → Members
  resting p T x = (T x).reasons (premise p)

  -- The cells whose reasons hold p are back at their start, and the constraints in force without p that name one wait as well.
  unfoldable pub lift_board : Premises → ℕ → Board F → Board F
  lift_board force p b = record { table = reset m (resting p b.table) b.table; waits = woken N (upd force p false) (resting p b.table) b.waits }

  -- The lowest and the highest of a cell, absent in conflict, and its reasons.
  abbrev pub reading : Cell F → Answer
  reading c = shown (cond (none m c.fact) None (Some (low m c.fact, high m c.fact))) c.reasons

  -- A call, made in a state, answers so and leaves that state.
  pub data Does : State F → Call → Answer → State F → Type 0 where
    refuses : (s : State F) (c : Call) (r : Refusal) → refusal N s c ≡ Some r → Does s c (refused r) s
    clears : (s : State F) (n : ℕ) → refusal N s (clear n) ≡ None →
        Does s (clear n) done (record { board = clear_board s.force; force = s.force; kept = s.kept; cleared = true; trail = s.trail })
    brings : (s : State F) (p : ℕ) → refusal N s (bring p) ≡ None →
        Does s (bring p) done (record { board = bring_board p s.board; force = upd s.force p true; kept = s.kept; cleared = s.cleared; trail = s.trail })
    lifts : (s : State F) (p n : ℕ) → refusal N s (lift p n) ≡ None →
        Does s (lift p n) (lifted (count (resting p s.board.table) N.cells))
        (record { board = lift_board s.force p s.board; force = upd s.force p false; kept = s.kept; cleared = s.cleared; trail = s.trail })
    runs : (s : State F) (i n : ℕ) (o : Outcome) (k : ℕ) (b : Board F) → refusal N s (run i n) ≡ None → Run m N s.force i s.board o k b →
        Does s (run i n) (ran o k) (record { board = b; force = s.force; kept = keep_run o s.kept; cleared = s.cleared; trail = s.trail })
    reads : (s : State F) (c n : ℕ) → refusal N s (read c n) ≡ None → Does s (read c n) (reading (s.board.table c)) s
    lists : (s : State F) (i : ℕ) (r : Premises) → refusal N s (kept i) ≡ None → slice_get s.kept i ≡ Some r → Does s (kept i) (listed r) s
    begins : (s : State F) → refusal N s begin ≡ None →
        Does s begin done (record { board = s.board; force = s.force; kept = s.kept; cleared = s.cleared; trail = Some [] })
    seeks : (s : State F) (t : Trail) (i n : ℕ) (o : Finding) (k : ℕ) (q : Search F) → refusal N s (seek i n) ≡ None → s.trail ≡ Some t →
        Seek m N s.force i (record { board = s.board; trail = t }) o k q →
        Does s (seek i n) (sought o k) (record { board = q.board; force = s.force; kept = keep_seek o s.kept; cleared = s.cleared; trail = Some q.trail })
    finishes : (s : State F) (t : Trail) → s.trail ≡ Some t →
        Does s finish (finished (guesses t)) (record { board = s.board; force = s.force; kept = s.kept; cleared = false; trail = None })
    idles : (s : State F) → s.trail ≡ None → Does s finish (finished 0) s
