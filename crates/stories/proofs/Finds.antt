-- A history with a conflict, a lift, a quiet run and a search that finds.
use Rattle.std.proofs.Common.{◌≡◌, ◌+◌, true, false, cond, not, ◌||◌, eqb, List, [], Some, None, refl, ap, ◌∙◌, subst, ap₂, arith}
use Rattle.std.proofs.Math.Bool.{or-false}
use mathlib.Core.Path.{fun_ext}
use Rattle.std.proofs.lemmas.Bool.{cond-true}
use Rattle.facts.specs.Model.{Model}
use Rattle.facts.specs.Laws.{Laws, Exact}
use Rattle.plan.specs.Placements.{Premises}
use Rattle.sets.specs.Members.{inside, count}
use Rattle.telling.specs.Reasons.{premise}
use Rattle.telling.specs.Tables.{Cell, upd, start_cell}
use Rattle.calls.specs.Networks.{in_force}
use Rattle.calls.specs.Boards.{Board, woken}
use Rattle.calls.specs.Running.{quiet, conflict, premises_of, after_step, Run, clashes, rests, steps}
use Rattle.calls.specs.Searching.{Search, found, after_guess, Seek, moves, finds, guesses_at, settles, steps as takes}
use Rattle.calls.specs.Keeping.{keep}
use Rattle.calls.specs.States.{State}
use Rattle.calls.specs.Refusals.{clear, bring, lift, run, begin, seek, finish, refusal}
use Rattle.calls.specs.Calls.{done, lifted, ran, sought, finished, clear_board, bring_board, resting, lift_board, Does, clears, brings, lifts, runs, begins, seeks, finishes}
use Rattle.calls.specs.Histories.{made, calls}
use Rattle.stories.specs.Stories.{low_one, high_one, net, pair, Finding}
use Rattle.stories.proofs.Betweens.{dead_none, equal_yes}
use Rattle.stories.proofs.Steps.{three, woken_next, Stands, step_fires, step-idles}
use Rattle.stories.proofs.Cells.{zero_one, narrowed, clashed, tried, start_live, zero_one_live, just_zero_live, just_zero, start-changed, narrowed_changed, start_narrows, narrowed_stays, narrowed_clashes, tried_stays, zero_one_wide, just_zero_one}
use Rattle.stories.proofs.Opening.{made_state, made_right, clear-stands, bring-stands, begin_granted, waits_at, nobody_at, clean_cell, lowest-cell, wide_cell, one_cell, guess-stands}

-- The premises in force: none, 0, 0 and 2, 0 again.
abbrev f₀ : Premises
f₀ p = false

abbrev f₁ : Premises
f₁ = upd f₀ 0 true

abbrev f₂ : Premises
f₂ = upd f₁ 2 true

abbrev f₃ : Premises
f₃ = upd f₂ 2 false

module _ {F : Type 0} (m : Model F) (l : Laws m) (exact : Exact m) where
  -- ---- up to the conflict

  abbrev b₁ : Board F
  b₁ = clear_board m net f₀

  abbrev b₂ : Board F
  b₂ = bring_board m net 0 b₁

  abbrev b₃ : Board F
  b₃ = bring_board m net 2 b₂

  s₂ : Stands b₂ (start_cell m) (three true false false)
  s₂ = bring-stands m l exact 0 b₁ (start_cell m) false false false (clear-stands m l exact)

  s₃ : Stands b₃ (start_cell m) (three true false true)
  s₃ = bring-stands m l exact 2 b₂ (start_cell m) true false false s₂

  abbrev b₄ : Board F
  b₄ = after_step m net f₂ 0 b₃

  s₄ : Stands b₄ (narrowed m l exact) (three true false true)
  unfolding in_force inside
  s₄ = step_fires m l f₂ 0 low_one b₃ (start_cell m) (narrowed m l exact) true false true true refl refl s₃ (start_narrows m l exact b₃.table s₃.cell_is) (ap not (start-changed m l exact))

  abbrev b₅ : Board F
  b₅ = after_step m net f₂ 2 b₄

  s₅ : Stands b₅ (clashed m l exact) (three true false true)
  unfolding in_force inside
  s₅ = step_fires m l f₂ 2 high_one b₄ (narrowed m l exact) (clashed m l exact) true false true true refl refl s₄ (narrowed_clashes m l exact b₄.table s₄.cell_is) (ap not (narrowed_changed m l exact))

  names_both : premises_of (b₅.table 0).reasons ≡ pair 0 2
  names_both = fun_ext (λ p. ap (λ (c : Cell F). c.reasons (premise p)) s₅.cell_is ∙ ap₂ ◌||◌ (or-false (eqb p 0)) (or-false (eqb p 2)))

  ran_clash : Run m net f₂ 9 b₃ (conflict (pair 0 2)) 2 b₅
  ran_clash =
      subst (λ r. Run m net f₂ 9 b₃ (conflict r) 2 b₅) names_both
      (steps 8 1 0 b₃ b₅ _ (clean_cell m l exact b₃ (start_cell m) (three true false true) s₃ (start_live m l exact)) (waits_at m l exact b₃ (start_cell m) (three true false true) s₃ 0 refl)
      (steps 7 0 2 b₄ b₅ _ (clean_cell m l exact b₄ (narrowed m l exact) (three true false true) s₄ (zero_one_live m l exact)) (waits_at m l exact b₄ (narrowed m l exact) (three true false true) s₄ 2 refl)
      (clashes 7 0 b₅ (lowest-cell m l exact b₅ (clashed m l exact) (three true false true) s₅ (dead_none m l exact)))))

  -- ---- the lift and the quiet run

  abbrev b₆ : Board F
  b₆ = lift_board m net f₂ 2 b₅

  rests_on : resting m net 2 b₅.table 0 ≡ true
  rests_on = ap (λ (c : Cell F). c.reasons (premise 2)) s₅.cell_is

  s₆ : Stands b₆ (start_cell m) (three true false true)
  unfolding lift_board in_force inside
  s₆ = record {
    cell_is = cond-true (resting m net 2 b₅.table 0) (start_cell m) (b₅.table 0) rests_on;
    waits_are = ap (woken net f₃ (resting m net 2 b₅.table)) s₅.waits_are ∙ woken_next f₃ (resting m net 2 b₅.table) (three true false true) true rests_on (λ n. refl);
  }

  lifted_one : count (resting m net 2 b₅.table) 1 ≡ 1
  unfolding count
  lifted_one = ap (λ z. 0 + cond z 1 0) rests_on

  abbrev b₇ : Board F
  b₇ = after_step m net f₃ 2 b₆

  s₇ : Stands b₇ (start_cell m) (three true false false)
  unfolding in_force inside
  s₇ = step-idles m l f₃ 2 high_one b₆ (start_cell m) true false true refl refl s₆

  abbrev b₈ : Board F
  b₈ = after_step m net f₃ 0 b₇

  s₈ : Stands b₈ (narrowed m l exact) (three true false false)
  unfolding in_force inside
  s₈ = step_fires m l f₃ 0 low_one b₇ (start_cell m) (narrowed m l exact) true false false true refl refl s₇ (start_narrows m l exact b₇.table s₇.cell_is) (ap not (start-changed m l exact))

  abbrev b₉ : Board F
  b₉ = after_step m net f₃ 0 b₈

  s₉ : Stands b₉ (narrowed m l exact) (three false false false)
  unfolding in_force inside
  s₉ = step_fires m l f₃ 0 low_one b₈ (narrowed m l exact) (narrowed m l exact) true false false false refl refl s₈ (narrowed_stays m l exact b₈.table s₈.cell_is) (ap not (equal_yes m l exact (zero_one m l exact)))

  ran-quiet : Run m net f₃ 9 b₆ quiet 3 b₉
  ran-quiet =
      steps 8 2 2 b₆ b₉ quiet (clean_cell m l exact b₆ (start_cell m) (three true false true) s₆ (start_live m l exact)) (waits_at m l exact b₆ (start_cell m) (three true false true) s₆ 2 refl)
      (steps 7 1 0 b₇ b₉ quiet (clean_cell m l exact b₇ (start_cell m) (three true false false) s₇ (start_live m l exact)) (waits_at m l exact b₇ (start_cell m) (three true false false) s₇ 0 refl)
      (steps 6 0 0 b₈ b₉ quiet (clean_cell m l exact b₈ (narrowed m l exact) (three true false false) s₈ (zero_one_live m l exact)) (waits_at m l exact b₈ (narrowed m l exact) (three true false false) s₈ 0 refl)
      (rests 6 b₉ (clean_cell m l exact b₉ (narrowed m l exact) (three false false false) s₉ (zero_one_live m l exact)) (nobody_at m l exact b₉ (narrowed m l exact) s₉))))

  -- ---- the search

  abbrev q₀ : Search F
  q₀ = record { board = b₉; trail = [] }

  abbrev q₁ : Search F
  q₁ = after_guess m net f₃ 0 q₀

  t₁ : Stands q₁.board (tried m l exact) (three true false false)
  unfolding in_force inside
  t₁ = guess-stands m l exact f₃ b₉ false false false s₉

  abbrev q₂ : Search F
  q₂ = record { board = after_step m net f₃ 0 q₁.board; trail = q₁.trail }

  t₂ : Stands q₂.board (tried m l exact) (three false false false)
  unfolding in_force inside
  t₂ = step_fires m l f₃ 0 low_one q₁.board (tried m l exact) (tried m l exact) true false false false refl refl t₁ (tried_stays m l exact q₁.board.table t₁.cell_is) (ap not (equal_yes m l exact (just_zero m l exact)))

  sought-found : Seek m net f₃ 9 q₀ found 2 q₂
  sought-found =
      moves 8 1 q₀ q₁ q₂ found
      (guesses_at q₀ 0 (clean_cell m l exact b₉ (narrowed m l exact) (three false false false) s₉ (zero_one_live m l exact)) (nobody_at m l exact b₉ (narrowed m l exact) s₉) (omega arith)
      (wide_cell m l exact b₉ (narrowed m l exact) (three false false false) s₉ (zero_one_wide m l exact)) (λ y lt. absurd (omega arith)) (omega arith) (omega arith))
      (moves 7 0 q₁ q₂ q₂ found
      (takes q₁ 0 (clean_cell m l exact q₁.board (tried m l exact) (three true false false) t₁ (just_zero_live m l exact)) (waits_at m l exact q₁.board (tried m l exact) (three true false false) t₁ 0 refl))
      (finds 7 q₂ (settles q₂ (clean_cell m l exact q₂.board (tried m l exact) (three false false false) t₂ (just_zero_live m l exact)) (nobody_at m l exact q₂.board (tried m l exact) t₂)
      (one_cell m l exact q₂.board (tried m l exact) (three false false false) t₂ (just_zero_live m l exact) (just_zero_one m l exact)))))

  -- ---- the history

  abbrev k₅ : List Premises
  k₅ = keep (pair 0 2) []

  abbrev n₁ : State F
  n₁ = record { board = b₁; force = f₀; kept = []; cleared = true; trail = None }

  abbrev n₂ : State F
  n₂ = record { board = b₂; force = f₁; kept = []; cleared = true; trail = None }

  abbrev n₃ : State F
  n₃ = record { board = b₃; force = f₂; kept = []; cleared = true; trail = None }

  abbrev n₅ : State F
  n₅ = record { board = b₅; force = f₂; kept = k₅; cleared = true; trail = None }

  abbrev n₆ : State F
  n₆ = record { board = b₆; force = f₃; kept = k₅; cleared = true; trail = None }

  abbrev n₉ : State F
  n₉ = record { board = b₉; force = f₃; kept = k₅; cleared = true; trail = None }

  abbrev o₀ : State F
  o₀ = record { board = b₉; force = f₃; kept = k₅; cleared = true; trail = Some [] }

  abbrev o₂ : State F
  o₂ = record { board = q₂.board; force = f₃; kept = k₅; cleared = true; trail = Some q₂.trail }

  abbrev o₃ : State F
  o₃ = record { board = q₂.board; force = f₃; kept = k₅; cleared = false; trail = None }

  did_lift : Does m net n₅ (lift 2 1) (lifted 1) n₆
  unfolding refusal
  did_lift = subst (λ n. Does m net n₅ (lift 2 1) (lifted n) n₆) lifted_one (lifts n₅ 2 1 refl)

  pub finding : Finding m
  unfolding refusal after_guess
  finding = record {
    events = _;
    late = o₃;
    history =
        calls _ o₂ finish (finished 1) o₃
        (calls _ o₀ (seek 9 1) (sought found 2) o₂
        (calls _ n₉ begin done o₀
        (calls _ n₆ (run 9 1) (ran quiet 3) n₉
        (calls _ n₅ (lift 2 1) (lifted 1) n₆
        (calls _ n₃ (run 9 1) (ran (conflict (pair 0 2)) 2) n₅
        (calls _ n₂ (bring 2) done n₃
        (calls _ n₁ (bring 0) done n₂
        (calls [] (made_state m l exact) (clear 1) done n₁ (made (made_state m l exact) (made_right m l exact)) tt (clears (made_state m l exact) 1 refl))
        tt (brings n₁ 0 refl))
        tt (brings n₂ 2 refl))
        tt (runs n₃ 9 1 (conflict (pair 0 2)) 2 b₅ refl ran_clash))
        tt did_lift)
        tt (runs n₆ 9 1 quiet 3 b₉ refl ran-quiet))
        exact (begins n₉ (begin_granted m l exact b₉ (narrowed m l exact) f₃ k₅ s₉)))
        exact (seeks o₀ [] 9 1 found 2 q₂ refl refl sought-found))
        tt (finishes o₂ q₂.trail refl);
    calls_are = refl;
    answers_are = refl;
  }
