-- The calls, and the table of refusals: for each call its rows in order.
use Rattle.std.specs.Prelude.{ℕ, suc, Bool, true, cond, not, List, [], ◌∷◌, length, Some, None, Option, ◌==◌, nat_lt}
use Rattle.plan.specs.Placements.{Premises}
use Rattle.telling.specs.Tables.{upd}
use Rattle.calls.specs.Networks.{Net, within}
use Rattle.calls.specs.Boards.{any_below}
use Rattle.calls.specs.States.{State, is_open}

-- The nine calls. `entries` is how many the table has that is handed in.
pub data Call : Type 0 where
  clear : (entries : ℕ) → Call
  bring : (p : ℕ) → Call
  lift : (p entries : ℕ) → Call
  run : (budget entries : ℕ) → Call
  read : (c entries : ℕ) → Call
  kept : (i : ℕ) → Call
  begin : Call
  seek : (budget entries : ℕ) → Call
  finish : Call

-- Why a call is refused.
pub data Refusal : Type 0 where
  search_open : Refusal
  not_cleared : Refusal
  other_length : Refusal
  no_search : Refusal
  no_such : Refusal
  already : Refusal
  kept_conflict : (i : ℕ) → Refusal
  something_waits : Refusal

-- The number by which programs know a refusal.
abbrev pub number_of : Refusal → ℕ
number_of search_open = 1
number_of not_cleared = 2
number_of other_length = 3
number_of no_search = 4
number_of no_such = 5
number_of already = 6
number_of (kept_conflict i) = 7
number_of something_waits = 8

-- A row: when it applies, and the refusal that it gives.
pub record Row : Type 0 where
  pub applies : Bool
  pub refusal : Refusal

-- The first row that applies.
abbrev pub first_row : List Row → Option Refusal
first_row [] = None
first_row (r ∷ rs) = cond r.applies (Some r.refusal) (first_row rs)

-- A row for each kept conflict, numbered from i: it lies within some premises.
abbrev pub kept_rows : ℕ → Premises → List Premises → List Row
kept_rows i ps [] = []
kept_rows i ps (k ∷ ks) = record { applies = within k ps; refusal = kept_conflict i } ∷ kept_rows (suc i) ps ks

-- The rows, each with its own case.
module _ {F : Type 0} (N : Net) (s : State F) where
  -- A search is open.
  abbrev pub while_open : Row
  while_open = record { applies = is_open s.trail; refusal = search_open }

  -- There was no clear since making or since a finish that closed a search.
  abbrev pub uncleared : Row
  uncleared = record { applies = not s.cleared; refusal = not_cleared }

  -- The table handed in has not one entry for each cell.
  abbrev pub misfit : ℕ → Row
  misfit entries = record { applies = not (entries == N.cells); refusal = other_length }

  -- No search is open.
  abbrev pub unopened : Row
  unopened = record { applies = not (is_open s.trail); refusal = no_search }

  -- There are n, numbered from 0, and number i is none of them.
  abbrev pub absent : ℕ → ℕ → Row
  absent i n = record { applies = not (nat_lt i n); refusal = no_such }

  -- The premise is in force already.
  abbrev pub brought : ℕ → Row
  brought p = record { applies = s.force p; refusal = already }

  -- The premise is out already.
  abbrev pub lifted : ℕ → Row
  lifted p = record { applies = not (s.force p); refusal = already }

  -- Something waits.
  abbrev pub waiting : Row
  waiting = record { applies = any_below 512 s.board.waits; refusal = something_waits }

  -- The rows of each call, from the upper to the lower.
  abbrev pub rows : Call → List Row
  rows (clear n) = while_open ∷ misfit n ∷ []
  rows (bring p) = while_open ∷ uncleared ∷ absent p N.premises ∷ brought p ∷ kept_rows 0 (upd s.force p true) s.kept
  rows (lift p n) = while_open ∷ uncleared ∷ misfit n ∷ absent p N.premises ∷ lifted p ∷ []
  rows (run b n) = while_open ∷ uncleared ∷ misfit n ∷ []
  rows (read c n) = uncleared ∷ misfit n ∷ absent c N.cells ∷ []
  rows (kept i) = absent i (length s.kept) ∷ []
  rows begin = while_open ∷ uncleared ∷ waiting ∷ []
  rows (seek b n) = uncleared ∷ misfit n ∷ unopened ∷ []
  rows finish = []

  -- The refusal of a call: that of its first row that applies.
  unfoldable pub refusal : Call → Option Refusal
  refusal c = first_row (rows c)
