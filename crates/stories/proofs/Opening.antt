-- What both histories share: clear, bring, begin and the guess, and tests on the cell.
use Rattle.std.proofs.Common.{◌≡◌, ℕ, zero, suc, ◌<◌, Bool, true, false, not, ◌||◌, eqb, ltb, List, [], ◌<ℤ◌, None, sym, refl, ap, ◌∙◌, subst, ap₂, arith}
use mathlib.Core.Path.{fun_ext}
use Rattle.std.specs.List.{slice_get}
use Rattle.std.proofs.lemmas.Bool.{ltb-true, cond-false, or_from}
use Rattle.statements.specs.Numbers.{bottom}
use Rattle.statements.specs.declared.statement.Statement.TheVariants.{Between}
use Rattle.facts.specs.Model.{Model}
use Rattle.facts.specs.Laws.{Laws, Exact}
use Rattle.facts.specs.Derived.{low, high, none, dead}
use Rattle.plan.specs.Placements.{Premises}
use Rattle.sets.specs.Members.{Members, Nobody, inside}
use Rattle.telling.specs.Reasons.{every_reason}
use Rattle.telling.specs.Tables.{Cell, facts, start_cell, changed}
use Rattle.telling.specs.Telling.{told_cell, after_told}
use Rattle.telling.specs.Stable.{One}
use Rattle.calls.specs.Networks.{in_force}
use Rattle.calls.specs.Boards.{Board, any_below, woken}
use Rattle.calls.specs.Running.{Clean, Lowest}
use Rattle.calls.specs.Trails.{is_guess}
use Rattle.calls.specs.Searching.{after_guess, Wide}
use Rattle.calls.specs.States.{State}
use Rattle.calls.specs.Refusals.{begin, refusal}
use Rattle.calls.specs.Calls.{standing, belongs, clear_board, bring_board}
use Rattle.calls.specs.Histories.{Made}
use Rattle.stories.specs.Stories.{net}
use Rattle.stories.proofs.Steps.{three, three_nobody, next, woken_next, Stands, clean_at}
use Rattle.stories.proofs.Cells.{narrowed, tried, narrowed_tried, tried_changed}

any_below_none : (n : ℕ) (s : Members) → Nobody s → any_below n s ≡ false
unfolding any_below
any_below_none zero s h = refl
any_below_none (suc n) s h = or_from (any_below n s) (s n) (any_below_none n s h) (h n)

module _ {F : Type 0} (m : Model F) (l : Laws m) (exact : Exact m) where
  -- A network just made, its cells in conflict for every reason and every number waiting.
  abbrev pub made_state : State F
  made_state = record {
    board = record { table = λ x. record { fact = dead m; reasons = every_reason }; waits = λ j. ltb j 512 };
    force = λ p. false;
    kept = [];
    cleared = false;
    trail = None;
  }

  pub made_right : Made made_state
  made_right = record { none_in_force = λ p. refl; none_kept = refl; not_cleared = refl; no_search = refl; waits_below = λ j e. ltb-true j 512 e }

  pub clear-stands : Stands (clear_board m net (λ p. false)) (start_cell m) (three false false false)
  unfolding clear_board in_force inside
  clear-stands = record { cell_is = refl; waits_are = fun_ext go }
    where
      go : (j : ℕ) → standing (λ p. false) (slice_get net.constraints j) ≡ three false false false j
      go zero = refl
      go (suc zero) = refl
      go (suc (suc zero)) = refl
      go (suc (suc (suc n))) = refl

  pub bring-stands : (p : ℕ) (b : Board F) (c : Cell F) (x y z : Bool) → Stands b c (three x y z) → Stands (bring_board m net p b) c (three (x || eqb p 0) (y || eqb p 1) (z || eqb p 2))
  unfolding bring_board
  bring-stands p b c x y z s = record {
    cell_is = s.cell_is;
    waits_are = fun_ext (λ j. ap (λ (w : Members). w j || belongs p (slice_get net.constraints j)) s.waits_are ∙ go j);
  }
    where
      go : (j : ℕ) → (three x y z j || belongs p (slice_get net.constraints j)) ≡ three (x || eqb p 0) (y || eqb p 1) (z || eqb p 2) j
      go zero = refl
      go (suc zero) = refl
      go (suc (suc zero)) = refl
      go (suc (suc (suc n))) = refl

  -- A state in which nothing waits, cleared and with no search, lets a search begin.
  pub begin_granted : (b : Board F) (c : Cell F) (force : Premises) (ks : List Premises) → Stands b c (three false false false) →
      refusal net (record { board = b; force = force; kept = ks; cleared = true; trail = None }) begin ≡ None
  unfolding refusal
  begin_granted b c force ks s =
      cond-false (any_below 512 b.waits) _ None (any_below_none 512 b.waits (λ j. ap (λ (w : Members). w j) s.waits_are ∙ three_nobody j))

  -- ---- tests on the board

  pub waits_at : (b : Board F) (c : Cell F) (w : Members) → Stands b c w → (j : ℕ) → w j ≡ true → b.waits j ≡ true
  waits_at b c w s j h = ap (λ (z : Members). z j) s.waits_are ∙ h

  pub nobody_at : (b : Board F) (c : Cell F) → Stands b c (three false false false) → Nobody b.waits
  nobody_at b c s j = ap (λ (z : Members). z j) s.waits_are ∙ three_nobody j

  pub clean_cell : (b : Board F) (c : Cell F) (w : Members) → Stands b c w → none m c.fact ≡ false → Clean m net b.table
  clean_cell b c w s h = clean_at m l b.table (subst (λ (z : Cell F). none m z.fact ≡ false) (sym s.cell_is) h)

  pub lowest-cell : (b : Board F) (c : Cell F) (w : Members) → Stands b c w → none m c.fact ≡ true → Lowest m net b.table 0
  lowest-cell b c w s h = record { is_cell = omega arith; in_conflict = subst (λ (z : Cell F). none m z.fact ≡ true) (sym s.cell_is) h; none_lower = λ y lt. absurd (omega arith) }

  pub wide_cell : (b : Board F) (c : Cell F) (w : Members) → Stands b c w → low m c.fact <ℤ high m c.fact → Wide m b.table 0
  wide_cell b c w s h = subst (λ (z : Cell F). low m z.fact <ℤ high m z.fact) (sym s.cell_is) h

  pub one_cell : (b : Board F) (c : Cell F) (w : Members) → Stands b c w → none m c.fact ≡ false → low m c.fact ≡ high m c.fact → (x : ℕ) → x < 1 → One m (facts b.table) x
  one_cell b c w s h e x lt =
      subst (λ z. One m (facts b.table) z) (let q : 0 ≡ x = omega arith in q)
      (subst (λ (z : Cell F). (none m z.fact ≡ false) × (low m z.fact ≡ high m z.fact)) (sym s.cell_is) (h, e))

  -- ---- the guess

  pub guess-stands : (force : Premises) (b : Board F) (x y z : Bool) → Stands b (narrowed m l exact) (three x y z) →
      Stands (after_guess m net force 0 (record { board = b; trail = [] })).board (tried m l exact) (next force true (three x y z))
  unfolding after_guess after_told
  guess-stands force b x y z s =
      let T = b.table in
      let T' = after_told m 0 (m.stated (Between bottom (low m (T 0).fact))) (is_guess 0) T in
      let there : T' 0 ≡ tried m l exact = ap (λ (c : Cell F). told_cell m (m.stated (Between bottom (low m c.fact))) (is_guess 0) c) s.cell_is ∙ narrowed_tried m l exact in
      record {
        cell_is = there;
        waits_are =
            ap (woken net force (changed m T T')) s.waits_are
            ∙ woken_next force (changed m T T') (three x y z) true
            (ap₂ (λ (d e : Cell F). not (m.equal d.fact e.fact)) s.cell_is there ∙ ap not (tried_changed m l exact))
            (λ n. refl);
      }
