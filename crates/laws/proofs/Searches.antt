-- A move and a seek: what holds after them, and what they answer.
use Rattle.std.proofs.Common.{ℕ, ◌<◌, List}
use Rattle.std.specs.List.{slice_get, AllByRecursion}
use Rattle.facts.specs.Model.{Model}
use Rattle.facts.specs.Laws.{Laws, Exact}
use Rattle.facts.specs.Derived.{low}
use Rattle.facts.proofs.Order.{low_in}
use Rattle.plan.specs.Forms.{named}
use Rattle.plan.specs.Placements.{Placed, Premises, Meets}
use Rattle.sets.specs.Members.{Within}
use Rattle.telling.specs.Tables.{facts, bare}
use Rattle.telling.specs.Stable.{One}
use Rattle.telling.proofs.Cases.{all_weaker}
use Rattle.telling.proofs.Fires.{fired_calm}
use Rattle.telling.proofs.Settles.{settles_right}
use Rattle.calls.specs.Networks.{Net, Planned, NoneMeets}
use Rattle.calls.specs.Boards.{Board}
use Rattle.calls.specs.Running.{premises_of, after_step, after_taken}
use Rattle.calls.specs.Trails.{Word, words}
use Rattle.calls.specs.Searching.{Search, Verdict, dead, moved, settled, cramped, Finding, Move, dies, jumps, steps, settles, crowds, guesses_at, Moves, still, move, Seek, fails, finds, fills, tires, moves}
use Rattle.laws.specs.Promises.{OnFound, OnNone}
use Rattle.laws.specs.Inside.{IsTold}
use Rattle.laws.proofs.Numbered.{named_below, in_force_made, meets-from}
use Rattle.laws.proofs.Counts.{after_taken_below}
use Rattle.laws.proofs.Live.{after_step_live, none_meets, reasons-in_force}
use Rattle.laws.proofs.Telling.{is_told_below}
use Rattle.laws.proofs.Jumps.{Searching, after_jump_searching, after_guess_searching}

module _ {F : Type 0} (m : Model F) (l : Laws m) (N : Net) (ok : Planned N) (force : Premises) where
  -- What holds of a search, of every placement.
  abbrev pub Sound : Search F → Type 0
  Sound q = Searching m l N Placed (λ v p. p) force q

  -- No placement meets the premises, and all of them are in force.
  abbrev pub Vain : Premises → Type 0
  Vain r = NoneMeets Placed N r × Within r force

  -- In an exact kind the cells' numbers are a placement that satisfies every constraint in force.
  abbrev pub Met : Search F → Type 0
  Met q = Exact m → Placed (λ x. low m (q.board.table x).fact) × Meets (λ x. low m (q.board.table x).fact) force N.constraints

  -- What a move comes to is right.
  abbrev pub RightVerdict : Search F → Verdict F → Type 0
  RightVerdict q (dead r) = Vain (premises_of r)
  RightVerdict q (moved q') = Sound q'
  RightVerdict q settled = Met q
  RightVerdict q cramped = Unit {0}

  step-told : (j : ℕ) (b : Board F) → (ws : List Word) → AllByRecursion (IsTold m N b.table) ws → AllByRecursion (IsTold m N (after_step m N force j b).table) ws
  unfolding after_step
  step-told j b ws h =
      let T' = after_taken m N force (slice_get N.constraints j) b.table in
      all_weaker (IsTold m N b.table) (IsTold m N T') (is_told_below m l N b.table T' (after_taken_below m l N force (slice_get N.constraints j) b.table)) ws h

  pub move_right : {q : Search F} {v : Verdict F} → Move m N force q v → Sound q → RightVerdict q v
  move_right (dies q x low_x free) s =
      (none_meets m l N Placed (λ v p. p) force q.trail q.board s.live x low_x.in_conflict free, λ p e. reasons-in_force m l N Placed (λ v z. z) force q.trail q.board s.live x p e)
  move_right (jumps q x g c n low_x top) s = after_jump_searching m l N Placed (λ v p. p) force q s x g c n low_x.in_conflict top
  move_right (steps q j clean w) s = record {
    live = after_step_live m l N Placed (λ v p. p) ok force q.trail j q.board s.live;
    true-trail = s.true-trail;
    right = record {
      few_guesses = s.right.few_guesses;
      few_entries = s.right.few_entries;
      all_told = λ _. step-told j q.board (words q.trail) (s.right.all_told clean);
    };
  }
  move_right (settles q clean idle one) s = λ exact. (
    (λ x. low_in m l (q.board.table x).fact),
    meets-from (λ x. low m (q.board.table x).fact) force N.constraints
        (λ j k at f.
        settles_right m l exact k (facts q.board.table)
        (all_weaker (λ x. x < N.cells) (One m (facts q.board.table)) one (named k.form) (named_below N ok j k at))
        (fired_calm m l k (bare (facts q.board.table)) (s.live.calmed j k at (in_force_made force k f) (idle j)))),
  )
  move_right (crowds q c clean idle lt wide room) s = tt
  move_right (guesses_at q c clean idle lt wide first few short) s = after_guess_searching m l N Placed (λ v p. p) force q s c lt clean few short

  -- What holds after a seek: the search is sound, exactly the moves were made, and the answer is right.
  pub record Sought (q : Search F) (o : Finding) (n : ℕ) (q' : Search F) : Type 0 where
    pub sound : Sound q'
    pub made : Moves m N force n q q'
    pub on_found : OnFound (Met q') o
    pub on_none : OnNone Vain o

  pub seek_right : {i : ℕ} {q : Search F} {o : Finding} {n : ℕ} {q' : Search F} → Seek m N force i q o n q' → Sound q → Sought q o n q'
  seek_right (fails i q r v) s = record { sound = s; made = still q; on_found = tt; on_none = move_right v s }
  seek_right (finds i q v) s = record { sound = s; made = still q; on_found = move_right v s; on_none = tt }
  seek_right (fills i q v) s = record { sound = s; made = still q; on_found = tt; on_none = tt }
  seek_right (tires q q₁ v) s = record { sound = s; made = still q; on_found = tt; on_none = tt }
  seek_right (moves i n q q₁ q' o v r) s =
      let z = seek_right r (move_right v s) in
      record { sound = z.sound; made = move n q q₁ q' v z.made; on_found = z.on_found; on_none = z.on_none }
