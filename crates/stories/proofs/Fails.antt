-- A history whose search ends in none.
use Rattle.std.proofs.Common.{◌≡◌, ℕ, Bool, true, false, cond, not, ◌||◌, eqb, [], ℤ, pos, ◌+ℤ◌, Some, None, sym, refl, ap, ◌∙◌, subst, ap₂, arith}
use mathlib.Core.Path.{fun_ext}
use Rattle.std.proofs.lemmas.Bool.{cond-true, cond-false}
use Rattle.statements.specs.Numbers.{top}
use Rattle.statements.specs.declared.statement.Statement.TheVariants.{Between}
use Rattle.facts.specs.Model.{Model}
use Rattle.facts.specs.Laws.{Laws, Exact}
use Rattle.facts.specs.Derived.{low, none}
use Rattle.plan.specs.Placements.{Premises}
use Rattle.sets.specs.Members.{Members, inside}
use Rattle.telling.specs.Reasons.{Reasons, premise, guess}
use Rattle.telling.specs.Tables.{Cell, Table, upd, start_cell, changed}
use Rattle.telling.specs.Telling.{told_cell, after_told}
use Rattle.calls.specs.Networks.{in_force}
use Rattle.calls.specs.Boards.{Board, any_below, woken, reset}
use Rattle.calls.specs.Running.{quiet, premises_of, after_step, Run, rests, steps}
use Rattle.calls.specs.Trails.{without_guess, holds_from, words}
use Rattle.calls.specs.Searching.{Search, none_left, Highest, after_words, after_guess, after_jump, Seek, moves, fails, guesses_at, jumps, dies, steps as takes}
use Rattle.calls.specs.Keeping.{keep}
use Rattle.calls.specs.States.{State}
use Rattle.calls.specs.Refusals.{clear, bring, run, begin, seek, refusal}
use Rattle.calls.specs.Calls.{done, ran, sought, clear_board, bring_board, clears, brings, runs, begins, seeks}
use Rattle.calls.specs.Histories.{made, calls}
use Rattle.stories.specs.Stories.{low_one, off_itself, net, pair, Failing}
use Rattle.stories.proofs.Betweens.{dead_none, equal_yes}
use Rattle.stories.proofs.Steps.{three, woken_next, Stands, step_fires}
use Rattle.stories.proofs.Cells.{zero_one, narrowed, tried, refuted, turned, pinned, ended, start_live, zero_one_live, just_zero_live, from_one_live, just_one_live, start-changed, refuted_changed, turned_changed, pinned_changed, ended_changed, start_narrows, narrowed_stays, narrowed_rests, tried_clashes, turned_narrows, pinned_clashes, start_turned, zero_one_wide}
use Rattle.stories.proofs.Opening.{made_state, made_right, clear-stands, bring-stands, begin_granted, waits_at, nobody_at, clean_cell, lowest-cell, wide_cell, guess-stands}

-- The premises in force: none, 0, 0 and 1.
abbrev f₀ : Premises
f₀ p = false

abbrev f₁ : Premises
f₁ = upd f₀ 0 true

abbrev f₂ : Premises
f₂ = upd f₁ 1 true

module _ {F : Type 0} (m : Model F) (l : Laws m) (exact : Exact m) where
  -- ---- up to the quiet run

  abbrev b₁ : Board F
  b₁ = clear_board m net f₀

  abbrev b₂ : Board F
  b₂ = bring_board m net 0 b₁

  abbrev b₃ : Board F
  b₃ = bring_board m net 1 b₂

  s₂ : Stands b₂ (start_cell m) (three true false false)
  s₂ = bring-stands m l exact 0 b₁ (start_cell m) false false false (clear-stands m l exact)

  s₃ : Stands b₃ (start_cell m) (three true true false)
  s₃ = bring-stands m l exact 1 b₂ (start_cell m) true false false s₂

  abbrev b₄ : Board F
  b₄ = after_step m net f₂ 0 b₃

  s₄ : Stands b₄ (narrowed m l exact) (three true true false)
  unfolding in_force inside
  s₄ = step_fires m l f₂ 0 low_one b₃ (start_cell m) (narrowed m l exact) true true false true refl refl s₃ (start_narrows m l exact b₃.table s₃.cell_is) (ap not (start-changed m l exact))

  abbrev b₅ : Board F
  b₅ = after_step m net f₂ 0 b₄

  s₅ : Stands b₅ (narrowed m l exact) (three false true false)
  unfolding in_force inside
  s₅ = step_fires m l f₂ 0 low_one b₄ (narrowed m l exact) (narrowed m l exact) true true false false refl refl s₄ (narrowed_stays m l exact b₄.table s₄.cell_is) (ap not (equal_yes m l exact (zero_one m l exact)))

  abbrev b₆ : Board F
  b₆ = after_step m net f₂ 1 b₅

  s₆ : Stands b₆ (narrowed m l exact) (three false false false)
  unfolding in_force inside
  s₆ = step_fires m l f₂ 1 off_itself b₅ (narrowed m l exact) (narrowed m l exact) false true false false refl refl s₅ (narrowed_rests m l exact b₅.table s₅.cell_is) (ap not (equal_yes m l exact (zero_one m l exact)))

  ran-quiet : Run m net f₂ 9 b₃ quiet 3 b₆
  ran-quiet =
      steps 8 2 0 b₃ b₆ quiet (clean_cell m l exact b₃ (start_cell m) (three true true false) s₃ (start_live m l exact)) (waits_at m l exact b₃ (start_cell m) (three true true false) s₃ 0 refl)
      (steps 7 1 0 b₄ b₆ quiet (clean_cell m l exact b₄ (narrowed m l exact) (three true true false) s₄ (zero_one_live m l exact)) (waits_at m l exact b₄ (narrowed m l exact) (three true true false) s₄ 0 refl)
      (steps 6 0 1 b₅ b₆ quiet (clean_cell m l exact b₅ (narrowed m l exact) (three false true false) s₅ (zero_one_live m l exact)) (waits_at m l exact b₅ (narrowed m l exact) (three false true false) s₅ 1 refl)
      (rests 6 b₆ (clean_cell m l exact b₆ (narrowed m l exact) (three false false false) s₆ (zero_one_live m l exact)) (nobody_at m l exact b₆ (narrowed m l exact) s₆))))

  -- ---- the guess, and the conflict that refutes it

  abbrev q₀ : Search F
  q₀ = record { board = b₆; trail = [] }

  abbrev q₁ : Search F
  q₁ = after_guess m net f₂ 0 q₀

  t₁ : Stands q₁.board (tried m l exact) (three true true false)
  unfolding in_force inside
  t₁ = guess-stands m l exact f₂ b₆ false false false s₆

  abbrev q₂ : Search F
  q₂ = record { board = after_step m net f₂ 1 q₁.board; trail = q₁.trail }

  t₂ : Stands q₂.board (refuted m l exact) (three true true false)
  unfolding in_force inside
  t₂ = step_fires m l f₂ 1 off_itself q₁.board (tried m l exact) (refuted m l exact) true true false true refl refl t₁ (tried_clashes m l exact q₁.board.table t₁.cell_is) (ap not (refuted_changed m l exact))

  -- ---- the jump

  -- The guess's number.
  abbrev guessed_at : ℤ
  guessed_at = low m (b₆.table 0).fact

  abbrev R : Reasons
  R = (q₂.board.table 0).reasons

  r_is : R ≡ (refuted m l exact).reasons
  r_is = ap (λ (c : Cell F). c.reasons) t₂.cell_is

  high-guess : Highest q₂.trail R 0 0 guessed_at
  unfolding after_guess
  high-guess = record { held = ap (λ (r : Reasons). r (guess 0)) r_is; none_higher = λ j a b. absurd (omega arith); guess_is = refl }

  abbrev q₃ : Search F
  q₃ = after_jump m net f₂ R 0 0 guessed_at q₂

  abbrev T₀ : Table F
  T₀ = reset m (λ x. holds_from 0 (q₂.board.table x).reasons) q₂.board.table

  goes_back : holds_from 0 R ≡ true
  unfolding any_below
  goes_back = ap (holds_from 0) r_is

  reset_is : T₀ 0 ≡ start_cell m
  reset_is = cond-true (holds_from 0 R) (start_cell m) (q₂.board.table 0) goes_back

  abbrev T₁ : Table F
  T₁ = after_told m 0 (m.stated (Between (guessed_at +ℤ pos 1) top)) (without_guess 0 R) T₀

  turned_is : T₁ 0 ≡ turned m l exact
  unfolding after_told
  turned_is =
      ap (λ (c : Cell F). told_cell m (m.stated (Between (guessed_at +ℤ pos 1) top)) (without_guess 0 R) c) reset_is
      ∙ (ap (λ (c : Cell F). told_cell m (m.stated (Between (low m c.fact +ℤ pos 1) top)) (without_guess 0 R) (start_cell m)) s₆.cell_is
      ∙ (ap (λ (r : Reasons). told_cell m (m.stated (Between (low m (zero_one m l exact) +ℤ pos 1) top)) (without_guess 0 r) (start_cell m)) r_is
      ∙ start_turned m l exact))

  t₃ : Stands q₃.board (turned m l exact) (three true true false)
  unfolding after_jump after_guess words after_words in_force inside
  t₃ =
      let back : Members = λ x. holds_from 0 (q₂.board.table x).reasons in
      let T₂ = cond (none m (T₁ 0).fact) T₁ T₁ in
      let same : T₂ ≡ T₁ = cond-false (none m (T₁ 0).fact) T₁ T₁ (subst (λ (c : Cell F). none m c.fact ≡ false) (sym turned_is) (from_one_live m l exact)) in
      let there : T₂ 0 ≡ turned m l exact = ap (λ (Z : Table F). Z 0) same ∙ turned_is in
      record {
        cell_is = there;
        waits_are =
            ap (λ (w : Members). woken net f₂ (changed m T₀ T₂) (woken net f₂ back w)) t₂.waits_are
            ∙ (ap (woken net f₂ (changed m T₀ T₂)) (woken_next f₂ back (three true true false) true goes_back (λ n. refl))
            ∙ woken_next f₂ (changed m T₀ T₂) (three true true false) true
            (ap₂ (λ (d e : Cell F). not (m.equal d.fact e.fact)) reset_is there ∙ ap not (turned_changed m l exact)) (λ n. refl));
      }

  -- ---- none

  abbrev q₄ : Search F
  q₄ = record { board = after_step m net f₂ 0 q₃.board; trail = q₃.trail }

  t₄ : Stands q₄.board (pinned m l exact) (three true true false)
  unfolding in_force inside
  t₄ = step_fires m l f₂ 0 low_one q₃.board (turned m l exact) (pinned m l exact) true true false true refl refl t₃ (turned_narrows m l exact q₃.board.table t₃.cell_is) (ap not (pinned_changed m l exact))

  abbrev q₅ : Search F
  q₅ = record { board = after_step m net f₂ 1 q₄.board; trail = q₄.trail }

  t₅ : Stands q₅.board (ended m l exact) (three true true false)
  unfolding in_force inside
  t₅ = step_fires m l f₂ 1 off_itself q₄.board (pinned m l exact) (ended m l exact) true true false true refl refl t₄ (pinned_clashes m l exact q₄.board.table t₄.cell_is) (ap not (ended_changed m l exact))

  -- Both of a and b, and nothing else, are among the reasons at the end.
  ended_names : (p : ℕ) → (ended m l exact).reasons (premise p) ≡ pair 0 1 p
  ended_names p = both (eqb p 0) (eqb p 1)
    where
      both : (a b : Bool) →
          let r₁ = (a || false) || false in
          let r₂ = r₁ || (b || (r₁ || (r₁ || (r₁ || false)))) in
          let r₃ = r₂ || (a || false) in
          (r₃ || (b || (r₃ || (r₃ || (r₃ || false))))) ≡ (a || b)
      both true b = refl
      both false true = refl
      both false false = refl

  names_both : premises_of (q₅.board.table 0).reasons ≡ pair 0 1
  names_both = fun_ext (λ p. ap (λ (c : Cell F). c.reasons (premise p)) t₅.cell_is ∙ ended_names p)

  sought_none : Seek m net f₂ 9 q₀ (none_left (pair 0 1)) 5 q₅
  unfolding after_jump after_guess
  sought_none =
      subst (λ r. Seek m net f₂ 9 q₀ (none_left r) 5 q₅) names_both
      (moves 8 4 q₀ q₁ q₅ _
      (guesses_at q₀ 0 (clean_cell m l exact b₆ (narrowed m l exact) (three false false false) s₆ (zero_one_live m l exact)) (nobody_at m l exact b₆ (narrowed m l exact) s₆) (omega arith)
      (wide_cell m l exact b₆ (narrowed m l exact) (three false false false) s₆ (zero_one_wide m l exact)) (λ y lt. absurd (omega arith)) (omega arith) (omega arith))
      (moves 7 3 q₁ q₂ q₅ _
      (takes q₁ 1 (clean_cell m l exact q₁.board (tried m l exact) (three true true false) t₁ (just_zero_live m l exact)) (waits_at m l exact q₁.board (tried m l exact) (three true true false) t₁ 1 refl))
      (moves 6 2 q₂ q₃ q₅ _
      (jumps q₂ 0 0 0 guessed_at (lowest-cell m l exact q₂.board (refuted m l exact) (three true true false) t₂ (dead_none m l exact)) high-guess)
      (moves 5 1 q₃ q₄ q₅ _
      (takes q₃ 0 (clean_cell m l exact q₃.board (turned m l exact) (three true true false) t₃ (from_one_live m l exact)) (waits_at m l exact q₃.board (turned m l exact) (three true true false) t₃ 0 refl))
      (moves 4 0 q₄ q₅ q₅ _
      (takes q₄ 1 (clean_cell m l exact q₄.board (pinned m l exact) (three true true false) t₄ (just_one_live m l exact)) (waits_at m l exact q₄.board (pinned m l exact) (three true true false) t₄ 1 refl))
      (fails 4 q₅ _ (dies q₅ 0 (lowest-cell m l exact q₅.board (ended m l exact) (three true true false) t₅ (dead_none m l exact)) (λ j lt. absurd (omega arith)))))))))

  -- ---- the history

  abbrev n₁ : State F
  n₁ = record { board = b₁; force = f₀; kept = []; cleared = true; trail = None }

  abbrev n₂ : State F
  n₂ = record { board = b₂; force = f₁; kept = []; cleared = true; trail = None }

  abbrev n₃ : State F
  n₃ = record { board = b₃; force = f₂; kept = []; cleared = true; trail = None }

  abbrev n₆ : State F
  n₆ = record { board = b₆; force = f₂; kept = []; cleared = true; trail = None }

  abbrev o₀ : State F
  o₀ = record { board = b₆; force = f₂; kept = []; cleared = true; trail = Some [] }

  abbrev o₅ : State F
  o₅ = record { board = q₅.board; force = f₂; kept = keep (pair 0 1) []; cleared = true; trail = Some q₅.trail }

  pub failing : Failing m
  unfolding refusal
  failing = record {
    events = _;
    late = o₅;
    history =
        calls _ o₀ (seek 9 1) (sought (none_left (pair 0 1)) 5) o₅
        (calls _ n₆ begin done o₀
        (calls _ n₃ (run 9 1) (ran quiet 3) n₆
        (calls _ n₂ (bring 1) done n₃
        (calls _ n₁ (bring 0) done n₂
        (calls [] (made_state m l exact) (clear 1) done n₁ (made (made_state m l exact) (made_right m l exact)) tt (clears (made_state m l exact) 1 refl))
        tt (brings n₁ 0 refl))
        tt (brings n₂ 1 refl))
        tt (runs n₃ 9 1 quiet 3 b₆ refl ran-quiet))
        exact (begins n₆ (begin_granted m l exact b₆ (narrowed m l exact) f₂ [] s₆)))
        exact (seeks o₀ [] 9 1 (none_left (pair 0 1)) 5 q₅ refl refl sought_none);
    calls_are = refl;
    answers_are = refl;
  }
