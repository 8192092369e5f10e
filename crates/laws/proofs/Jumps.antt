-- Jumps and guesses keep what holds of a search.
use Rattle.std.proofs.Common.{◌≡◌, ℕ, ◌<◌, true, false, not, ◌&&◌, eqb, leb, ◌∷◌, length, ℤ, pos, ◌+ℤ◌, ◌≤ℤ◌, sym, ap, ◌∙◌, subst, ⊎_elim, arith}
use Rattle.std.specs.List.{AllByRecursion}
use Rattle.std.proofs.lemmas.Int.{ints, by_lt_z}
use Rattle.std.proofs.lemmas.Bool.{cond_both, cond-false, cases_lt, cases_eq, and_parts, and_from, not-true, le-leb, eqb-true, eq-eqb, ltb-true, lt-ltb}
use Rattle.statements.proofs.Tests.{test_clash, test_cases}
use Rattle.facts.specs.Model.{Model}
use Rattle.facts.specs.Laws.{Laws}
use Rattle.facts.specs.Derived.{low, none}
use Rattle.facts.proofs.Order.{none_no, start-allows}
use Rattle.plan.specs.Placements.{Placement, Placed, Premises}
use Rattle.sets.specs.Members.{Members}
use Rattle.telling.specs.Reasons.{premise, guess, Reasons, Among}
use Rattle.telling.specs.Tables.{Cell, Table, start_cell, changed}
use Rattle.telling.specs.Stable.{LiesBy}
use Rattle.telling.proofs.Cases.{all_weaker}
use Rattle.telling.proofs.Fits.{Fit, Fits, start_fits}
use Rattle.calls.specs.Networks.{Net}
use Rattle.calls.specs.Boards.{woken, reset}
use Rattle.calls.specs.Running.{Clean}
use Rattle.calls.specs.Trails.{guessed, Trail, guesses, guess_at, before, without_guess, holds_from, jump_trail, word_of, words}
use Rattle.calls.specs.Searching.{Search, Highest, after_word, after_words, after_jump, after_guess}
use Rattle.laws.specs.Inside.{IsTold, TrailRight}
use Rattle.laws.proofs.Numbered.{any_below_no, all_push}
use Rattle.laws.proofs.Calms.{unchanged_fact, woken_calmed}
use Rattle.laws.proofs.Counts.{woken_bounded}
use Rattle.laws.proofs.Live.{at_hand, MeetsGuess, MeetsReasons, Live}
use Rattle.laws.proofs.Trails.{Sub, sub_refl, sub_tail, before_sub, before_shorter, forcing-guesses, forcing-length, at_hand_sub, at_hand_opened, meets-among, meets_longer, meets_shorter, Sure, TrueTrail, before-true, forcing-true, guess-cell}
use Rattle.laws.proofs.Telling.{after_word_below, after_word-told, is_told_below, after_words-told, TrueWord, word_of-true, words-true, Good, after_word_good, after_words_good}

-- ---- cells back at their start

module _ {F : Type 0} (m : Model F) (l : Laws m) (N : Net) where
  pub reset_same : (cells : Members) (T : Table F) (x : ℕ) → cells x ≡ false → (T x).fact ≡ (reset m cells T x).fact
  reset_same cells T x e = sym (ap (λ (c : Cell F). c.fact) (cond-false (cells x) (start_cell m) (T x) e))

  -- A cell at its start fits whatever is at hand; another fits where its reasons are still at hand.
  pub reset-fits : (r r' : Reasons) (cells : Members) (T : Table F) → Fits m l r T → ((x : ℕ) → cells x ≡ false → Among (T x).reasons r') → Fits m l r' (reset m cells T)
  reset-fits r r' cells T ok left x =
      cond_both (cells x) (start_cell m) (T x) (Fit m l r') (λ e. start_fits m l r') (λ e. record { tidy = (ok x).tidy; scope = left x e })

  -- What lies within a cell lies within one at its start.
  pub reset_lies : (cells : Members) (T : Table F) (r : Reasons) (v : Placement) → Placed v → ((x : ℕ) → cells x ≡ false → Among (T x).reasons r → m.allows (T x).fact (v x) ≡ true) → LiesBy m r v (reset m cells T)
  reset_lies cells T r v P ok x =
      cond_both (cells x) (start_cell m) (T x) (λ (c : Cell F). Among c.reasons r → m.allows c.fact (v x) ≡ true)
      (λ e h. start-allows m l (v x) (P x)) (λ e h. ok x e h)

module _ {F : Type 0} (m : Model F) (l : Laws m) (N : Net) (Sort : Placement → Type 0) (placed : (v : Placement) → Sort v → Placed v) (force : Premises) where
  -- What holds of a search: its board is live, its entries are true, and its trail is right.
  pub record Searching (q : Search F) : Type 0 where
    pub live : Live m l N Sort placed force q.trail q.board
    pub true-trail : TrueTrail N Sort force q.trail
    pub right : TrailRight m N q.board.table q.trail

  module _ (q : Search F) (s : Searching q) (x g c : ℕ) (n : ℤ) (dead : none m (q.board.table x).fact ≡ true) (top : Highest q.trail (q.board.table x).reasons g c n) where
    -- the reasons of the conflict, and the trail before and after the jump
    abbrev R : Reasons
    R = (q.board.table x).reasons

    abbrev t : Trail
    t = q.trail

    abbrev t₀ : Trail
    t₀ = before g t

    abbrev t' : Trail
    t' = jump_trail R g c n t

    cut : (guesses t₀ ≡ g) × Sub t₀ t
    cut = before_sub g t (c, n) top.guess_is

    -- An open guess of the conflict other than the highest is open before it.
    lower_guess : (j : ℕ) → R (guess j) ≡ true → eqb g j ≡ false → j < guesses t₀
    lower_guess j h ne =
        let a = ltb-true j (guesses t) ((s.live.fits x).scope (guess j) h) in
        let e = cut.0 in
        ⊎_elim (λ p. omega arith)
        (λ p. ⊎_elim
        (λ same. test_clash (eq-eqb g j (sym same)) ne)
        (λ differ. test_clash h (top.none_higher j (let d : (j ≡ g) → ⊥ = differ in omega arith) a))
        (cases_eq j g))
        (cases_lt j g)

    jump_scope : Among (without_guess g R) (at_hand force t₀)
    jump_scope (premise p) e = (s.live.fits x).scope (premise p) (and_parts true (R (premise p)) e).1
    jump_scope (guess j) e =
        let h = and_parts (not (eqb g j)) (R (guess j)) e in
        lt-ltb j (guesses t₀) (lower_guess j h.1 (not-true (eqb g j) h.0))

    -- What the jump forces is true: otherwise a placement would lie within the cell in conflict.
    jump_sure : Sure N Sort force c (n +ℤ pos 1) (without_guess g R) t₀
    jump_sure = record { scope = jump_scope; holds = holds }
      where
        holds : (v : Placement) → Sort v → MeetsReasons N v t₀ (without_guess g R) → (n +ℤ pos 1) ≤ℤ v c
        holds v P met =
            by_lt_z n (v c) (λ p. omega (arith, ints))
            (λ p. test_clash dead (none_no m l (q.board.table x).fact (v x) (s.live.lying v P R (record { premises_met = met.premises_met; guesses_met = all p }) x (λ h e. e))))
          where
            all : v c ≤ℤ n → (j : ℕ) → R (guess j) ≡ true → MeetsGuess v (guess_at j t)
            all p j h =
                test_cases {P = MeetsGuess v (guess_at j t)} (eqb g j)
                (λ e. subst (λ z. MeetsGuess v (guess_at z t)) (eqb-true g j e) (subst (MeetsGuess v) (sym top.guess_is) p))
                (λ e.
                let open_before = lower_guess j h e in
                subst (MeetsGuess v) (sym (cut.1.means j open_before)) (met.guesses_met j (and_from (not (eqb g j)) (R (guess j)) (ap not e) h)))

    forced_same : (guesses t' ≡ guesses t₀) × ((j : ℕ) → guess_at j t' ≡ guess_at j t₀)
    forced_same = forcing-guesses c (n +ℤ pos 1) (without_guess g R) t₀

    jump_sub : Sub t' t
    jump_sub =
        let a = cut.1.fewer in
        let b = forced_same.0 in
        record { fewer = omega arith; means = λ j lt. cut.1.means j (subst (λ z. j < z) forced_same.0 lt) ∙ sym (forced_same.1 j) }

    jump_true : TrueTrail N Sort force t'
    jump_true = forcing-true N Sort force c (n +ℤ pos 1) (without_guess g R) t₀ (guess-cell N Sort force g t c n s.true-trail top.guess_is) jump_sure (before-true N Sort force g t s.true-trail)

    -- The cells that go back to their start.
    abbrev back : Members
    back y = holds_from g (q.board.table y).reasons

    -- A cell that stays has reasons that are still at hand.
    back_left : (y : ℕ) → back y ≡ false → Among (q.board.table y).reasons (at_hand force t')
    back_left y e (premise p) h = (s.live.fits y).scope (premise p) h
    back_left y e (guess j) h =
        let a = ltb-true j (guesses t) ((s.live.fits y).scope (guess j) h) in
        let few = s.right.few_guesses in
        let b = forced_same.0 in
        let d = cut.0 in
        ⊎_elim (λ p. lt-ltb j (guesses t') (omega arith))
        (λ p. test_clash (and_from (leb g j) ((q.board.table y).reasons (guess j)) (le-leb g j p) h) (any_below_no 32 (λ i. leb g i && (q.board.table y).reasons (guess i)) e j (omega arith)))
        (cases_lt j g)

    reset_good : Good m l N Sort placed force t' (reset m back q.board.table)
    reset_good = (
      reset-fits m l N (at_hand force t) (at_hand force t') back q.board.table s.live.fits back_left,
      λ v P r met.
          reset_lies m l N back q.board.table r v (placed v P)
          (λ y e h. s.live.lying v P (q.board.table y).reasons
          (meets_longer N v t' t (q.board.table y).reasons jump_sub (at_hand_opened force t' (q.board.table y).reasons (back_left y e))
          (meets-among N v t' r (q.board.table y).reasons h met))
          y (λ h' k. k)),
    )

    pub after_jump_searching : Searching (after_jump m N force R g c n q)
    unfolding after_jump
    after_jump_searching =
        let T = q.board.table in
        let w = q.board.waits in
        let T₁ = reset m back T in
        let T₂ = after_words m (words t') T₁ in
        let ws : AllByRecursion (TrueWord m l N Sort placed force t') (words t') = words-true m l N Sort placed force t' t' (sub_refl t') jump_true in
        let good : Good m l N Sort placed force t' T₂ = after_words_good m l N Sort placed force t' (words t') T₁ ws reset_good in
        let shorter = before_shorter g t (c, n) top.guess_is in
        let longer = forcing-length c (n +ℤ pos 1) (without_guess g R) t₀ in
        let few = s.right.few_entries in
        let few-g = s.right.few_guesses in
        let fewer = jump_sub.fewer in
        record {
          live = record {
            fits = good.0;
            bounded = woken_bounded N force (changed m T₁ T₂) (woken N force back w) (woken_bounded N force back w s.live.bounded);
            calmed =
                woken_calmed m l N force (changed m T₁ T₂) (woken N force back w) T₁ T₂ (unchanged_fact m l T₁ T₂)
                (woken_calmed m l N force back w T T₁ (reset_same m l N back T) s.live.calmed);
            lying = good.1;
          };
          true-trail = jump_true;
          right = record {
            few_guesses = omega arith;
            few_entries = omega arith;
            all_told = after_words-told m l N (words t') T₁ (all_weaker (TrueWord m l N Sort placed force t') (λ w. w.cell < N.cells) (λ w h. h.of_cell) (words t') ws);
          };
        }

  -- ---- a guess

  pub after_guess_searching : (q : Search F) → Searching q → (c : ℕ) → c < N.cells → Clean m N q.board.table → guesses q.trail < 32 → length q.trail < 512 → Searching (after_guess m N force c q)
  unfolding after_guess words
  after_guess_searching q s c lt clean few short =
      let T = q.board.table in
      let t = q.trail in
      let e = guessed c (low m (T c).fact) in
      let w = word_of (guesses t) e in
      let T' = after_word m w T in
      let sub : Sub t (e ∷ t) = sub_tail e t (e ∷ t) (sub_refl (e ∷ t)) in
      let good : Good m l N Sort placed force (e ∷ t) T' =
      after_word_good m l N Sort placed force (e ∷ t) w T (word_of-true m l N Sort placed force (e ∷ t) e t (sub_refl (e ∷ t)) lt) (
        (λ y. record { tidy = (s.live.fits y).tidy; scope = λ h k. at_hand_sub force t (e ∷ t) sub h ((s.live.fits y).scope h k) }),
        (λ v P r met y h.
            s.live.lying v P (T y).reasons
            (meets_shorter N v t (e ∷ t) (T y).reasons sub (at_hand_opened force t (T y).reasons (s.live.fits y).scope)
            (meets-among N v (e ∷ t) r (T y).reasons h met))
            y (λ h' k. k)),
      ) in
      record {
        live = record {
          fits = good.0;
          bounded = woken_bounded N force (changed m T T') q.board.waits s.live.bounded;
          calmed = woken_calmed m l N force (changed m T T') q.board.waits T T' (unchanged_fact m l T T') s.live.calmed;
          lying = good.1;
        };
        true-trail = (lt, s.true-trail);
        right = record {
          few_guesses = omega arith;
          few_entries = omega arith;
          all_told = λ _.
              all_push (IsTold m N T') (words t) w
              (all_weaker (IsTold m N T) (IsTold m N T') (is_told_below m l N T T' (after_word_below m l N w T)) (words t) (s.right.all_told clean))
              (after_word-told m l N w T);
        };
      }
