-- Steps of the network with one cell: the cell and the numbers that wait after each.
use Rattle.std.proofs.Common.{◌≡◌, ℕ, zero, suc, Bool, true, false, cond, not, ◌&&◌, ◌||◌, eqb, List, [], ◌∷◌, ℤ, pos, ◌+ℤ◌, Some, Option, sym, refl, ap, ◌∙◌, subst, ap₂, arith}
use mathlib.Core.Path.{fun_ext}
use lib.Signed.{lt_z}
use Rattle.std.specs.List.{slice_get, AllByRecursion}
use Rattle.std.proofs.Math.Bool.{or-false, or_self}
use Rattle.std.proofs.lemmas.Bool.{cond_both, cond-true, cond-false, or_from, and_right}
use Rattle.statements.specs.Numbers.{top}
use Rattle.statements.specs.declared.statement.Statement.TheVariants.{Between}
use Rattle.facts.specs.Model.{Model}
use Rattle.facts.specs.Laws.{Laws}
use Rattle.facts.specs.Derived.{low, high, none, tidy, told}
use Rattle.plan.specs.Placements.{Premises, owned_by}
use Rattle.plan.specs.declared.constraint.Constraint.{Constraint}
use Rattle.plan.specs.declared.constraint.Form.TheVariants.{State}
use Rattle.forms.specs.Tells.{tells, up, down}
use Rattle.forms.specs.declared.tell.Tell.{Tell}
use Rattle.sets.specs.Members.{Members, Nobody}
use Rattle.telling.specs.Reasons.{Reasons, no_reasons, together, premises_only}
use Rattle.telling.specs.Tables.{Cell, Table, facts, any, changed}
use Rattle.telling.specs.Telling.{is_made, told_cell, after_told, after_tell}
use Rattle.telling.specs.Firing.{after_tells, fired}
use Rattle.calls.specs.Networks.{in_force}
use Rattle.calls.specs.Boards.{Board, without, woken}
use Rattle.calls.specs.Running.{Clean, after_taken, after_step}
use Rattle.stories.specs.Stories.{low_one, off_itself, high_one, net}

-- The set that holds each of 0, 1 and 2 as told, and no other number.
abbrev pub three : Bool → Bool → Bool → Members
three a b c zero = a
three a b c (suc zero) = b
three a b c (suc (suc zero)) = c
three a b c (suc (suc (suc n))) = false

pub three_nobody : Nobody (three false false false)
three_nobody zero = refl
three_nobody (suc zero) = refl
three_nobody (suc (suc zero)) = refl
three_nobody (suc (suc (suc n))) = refl

-- The reasons of a tell that reads no cell, of a constraint that premise p owns.
abbrev pub mine : ℕ → Reasons
mine p = together (premises_only (owned_by (Some p))) no_reasons

-- The reasons of a tell of the second constraint, where the cell has these.
abbrev pub hers : Reasons → Reasons
hers r = together (premises_only (owned_by (Some 1))) (together r (together r (together r no_reasons)))

-- What waits once cell 0 has changed, or not.
abbrev pub next : Premises → Bool → Members → Members
next force hit w = three (w 0 || (in_force force low_one && hit)) (w 1 || (in_force force off_itself && hit)) (w 2 || (in_force force high_one && hit))

pub woken_next : (force : Premises) (cells w : Members) (hit : Bool) → cells 0 ≡ hit → ((n : ℕ) → w (suc (suc (suc n))) ≡ false) → woken net force cells w ≡ next force hit w
unfolding any
woken_next force cells w hit e none = fun_ext go
  where
    go : (j : ℕ) → woken net force cells w j ≡ next force hit w j
    go zero = ap (λ z. w 0 || (in_force force low_one && z)) (or-false (cells 0) ∙ e)
    go (suc zero) = ap (λ z. w 1 || (in_force force off_itself && z)) (ap (λ b. cells 0 || b) (or-false (cells 0)) ∙ or_self (cells 0) ∙ e)
    go (suc (suc zero)) = ap (λ z. w 2 || (in_force force high_one && z)) (or-false (cells 0) ∙ e)
    go (suc (suc (suc n))) = or_from (w (suc (suc (suc n)))) false (none n) refl

-- The board has this cell, and these numbers wait.
pub record Stands {F : Type 0} (b : Board F) (c : Cell F) (w : Members) : Type 0 where
  pub cell_is : b.table 0 ≡ c
  pub waits_are : b.waits ≡ w

module _ {F : Type 0} (m : Model F) (l : Laws m) where
  pub clean_at : (T : Table F) → none m (T 0).fact ≡ false → Clean m net T
  clean_at T h x lt = subst (λ z. none m (T z).fact ≡ false) (let e : 0 ≡ x = omega arith in e) h

  -- A step that fires constraint j.
  pub step_fires : (force : Premises) (j : ℕ) (k : Constraint) (b : Board F) (c c' : Cell F) (x y z hit : Bool) →
      slice_get net.constraints j ≡ Some k → in_force force k ≡ true → Stands b c (three x y z) →
      fired m k b.table 0 ≡ c' → not (m.equal c.fact c'.fact) ≡ hit →
      Stands (after_step m net force j b) c' (next force hit (without j (three x y z)))
  unfolding after_step
  step_fires force j k b c c' x y z hit at inf s f h =
      let T = b.table in
      let T' = after_taken m net force (slice_get net.constraints j) T in
      let T'-is : T' ≡ fired m k T = ap (λ (o : Option Constraint). after_taken m net force o T) at ∙ cond-true (in_force force k) (fired m k T) T inf in
      let there : T' 0 ≡ c' = ap (λ (Z : Table F). Z 0) T'-is ∙ f in
      record {
        cell_is = there;
        waits_are =
            ap (λ w. woken net force (changed m T T') (without j w)) s.waits_are
            ∙ woken_next force (changed m T T') (without j (three x y z)) hit
            (ap₂ (λ (d e : Cell F). not (m.equal d.fact e.fact)) s.cell_is there ∙ h)
            (λ n. and_right (not (eqb (suc (suc (suc n))) j)) false refl);
      }

  -- A step that takes constraint j, which is not in force.
  pub step-idles : (force : Premises) (j : ℕ) (k : Constraint) (b : Board F) (c : Cell F) (x y z : Bool) →
      slice_get net.constraints j ≡ Some k → in_force force k ≡ false → Stands b c (three x y z) →
      Stands (after_step m net force j b) c (next force false (without j (three x y z)))
  unfolding after_step
  step-idles force j k b c x y z at inf s =
      let T = b.table in
      let T' = after_taken m net force (slice_get net.constraints j) T in
      let T'-is : T' ≡ T = ap (λ (o : Option Constraint). after_taken m net force o T) at ∙ cond-false (in_force force k) (fired m k T) T inf in
      record {
        cell_is = ap (λ (Z : Table F). Z 0) T'-is ∙ s.cell_is;
        waits_are =
            ap (λ w. woken net force (changed m T T') (without j w)) s.waits_are
            ∙ woken_next force (changed m T T') (without j (three x y z)) false
            (ap (λ (Z : Table F). not (m.equal (T 0).fact (Z 0).fact)) T'-is ∙ ap not ((l.equal_decides (T 0).fact (T 0).fact).1 refl))
            (λ n. and_right (not (eqb (suc (suc (suc n))) j)) false refl);
      }

  -- ---- cells told

  pub told_cell_keeps : (g : F) (s : Reasons) (c : Cell F) → told m g c.fact ≡ c.fact → told_cell m g s c ≡ c
  unfolding told_cell
  told_cell_keeps g s c e =
      let h = told m g c.fact in
      cond-true (m.equal h c.fact) c (record { fact = h; reasons = cond (m.equal h (tidy m g)) s (together c.reasons s) }) ((l.equal_decides h c.fact).1 e)

  pub told_cell_new : (g : F) (s : Reasons) (c : Cell F) (h : F) (t : Bool) → told m g c.fact ≡ h → m.equal h c.fact ≡ false → m.equal h (tidy m g) ≡ t →
      told_cell m g s c ≡ record { fact = h; reasons = cond t s (together c.reasons s) }
  unfolding told_cell
  told_cell_new g s c h t e p q =
      ap (λ z. cond (m.equal z c.fact) c (record { fact = z; reasons = cond (m.equal z (tidy m g)) s (together c.reasons s) })) e
      ∙ (cond-false (m.equal h c.fact) c (record { fact = h; reasons = cond (m.equal h (tidy m g)) s (together c.reasons s) }) p
      ∙ ap (λ z. record { fact = h; reasons = cond z s (together c.reasons s) }) q)

  not_stuck : (T : Table F) → none m (T 0).fact ≡ false → (none m (T 0).fact || false) ≡ false
  not_stuck T h = or_from (none m (T 0).fact) false h refl

  -- ---- the constraint that the cell is lo to hi

  module _ (p : ℕ) (lo hi : ℤ) (T : Table F) (c c₁ : Cell F) (at : T 0 ≡ c) (live : none m c.fact ≡ false) (first : told_cell m (m.stated (Between lo hi)) (mine p) c ≡ c₁) where
    abbrev con : Constraint
    con = record { owner = Some p; form = State 0 (Between lo hi) }

    unstuck : (none m (T 0).fact || false) ≡ false
    unstuck = not_stuck T (subst (λ (z : Cell F). none m z.fact ≡ false) (sym at) live)

    pub state_clashes : none m c₁.fact ≡ true → fired m con T 0 ≡ c₁
    unfolding fired after_tells after_tell after_told any
    state_clashes dead =
        let T₁ = after_told m 0 (m.stated (Between lo hi)) (mine p) T in
        let here : T₁ 0 ≡ c₁ = ap (told_cell m (m.stated (Between lo hi)) (mine p)) at ∙ first in
        ap (λ (Z : Table F). Z 0) (cond-false (none m (T 0).fact || false) _ _ unstuck
        ∙ cond-true (none m (T₁ 0).fact) T₁ _ (subst (λ (z : Cell F). none m z.fact ≡ true) (sym here) dead))
        ∙ here

    pub state_tells : none m c₁.fact ≡ false → told m (m.stated (Between (up (Between lo hi) (low m c₁.fact)) (down (Between lo hi) (high m c₁.fact)))) c₁.fact ≡ c₁.fact → fired m con T 0 ≡ c₁
    unfolding fired after_tells after_tell after_told any
    state_tells fine calm =
        let T₁ = after_told m 0 (m.stated (Between lo hi)) (mine p) T in
        let here : T₁ 0 ≡ c₁ = ap (told_cell m (m.stated (Between lo hi)) (mine p)) at ∙ first in
        let said = λ (z : Cell F). m.stated (Between (up (Between lo hi) (low m z.fact)) (down (Between lo hi) (high m z.fact))) in
        let why = λ (z : Cell F). together (premises_only (owned_by (Some p))) (together z.reasons no_reasons) in
        let T₂ = after_told m 0 (said (T₁ 0)) (why (T₁ 0)) T₁ in
        let there : T₂ 0 ≡ c₁ = ap (λ (z : Cell F). told_cell m (said z) (why z) z) here ∙ told_cell_keeps (said c₁) (why c₁) c₁ calm in
        ap (λ (Z : Table F). Z 0) (cond-false (none m (T 0).fact || false) _ _ unstuck
        ∙ cond-false (none m (T₁ 0).fact) T₁ _ (subst (λ (z : Cell F). none m z.fact ≡ false) (sym here) fine))
        ∙ cond_both (none m (T₂ 0).fact) T₂ T₂ (λ (Z : Table F). Z 0 ≡ c₁) (λ _. there) (λ _. there)

  -- ---- the constraint that the cell is 1 away from itself

  module _ (T : Table F) (c : Cell F) (at : T 0 ≡ c) (live : none m c.fact ≡ false) where
    apart_unstuck : (none m (T 0).fact || (none m (T 0).fact || false)) ≡ false
    apart_unstuck = let h = subst (λ (z : Cell F). none m z.fact ≡ false) (sym at) live in or_from (none m (T 0).fact) (none m (T 0).fact || false) h (not_stuck T h)

    unmade : (ps : Premises) (ts : List Tell) → AllByRecursion (λ t. is_made m (facts T) t ≡ false) ts → after_tells m ps ts T ≡ T
    unfolding after_tells after_tell
    unmade ps [] h = refl
    unmade ps (t ∷ ts) h =
        let T' = after_tell m ps t T in
        let same : T' ≡ T = cond-false (is_made m (facts T) t) _ T h.0 in
        cond_both (none m (T' t.target).fact) T' (after_tells m ps ts T') (λ Z. Z ≡ T) (λ _. same) (λ _. ap (after_tells m ps ts) same ∙ unmade ps ts h.1)

    pub apart-rests : lt_z (high m c.fact) (low m c.fact +ℤ pos 1) ≡ false → fired m off_itself T 0 ≡ c
    unfolding fired any
    apart-rests wide =
        let off : lt_z (high m (T 0).fact) (low m (T 0).fact +ℤ pos 1) ≡ false = subst (λ (z : Cell F). lt_z (high m z.fact) (low m z.fact +ℤ pos 1) ≡ false) (sym at) wide in
        ap (λ (Z : Table F). Z 0) (cond-false (none m (T 0).fact || (none m (T 0).fact || false)) _ _ apart_unstuck
        ∙ unmade (owned_by (Some 1)) (tells off_itself.form) (off, (off, (off, (off, tt)))))
        ∙ at

    pub apart-clashes : (c₁ : Cell F) → lt_z (high m c.fact) (low m c.fact +ℤ pos 1) ≡ true → told_cell m (m.stated (Between (low m c.fact +ℤ pos 1) top)) (hers c.reasons) c ≡ c₁ → none m c₁.fact ≡ true → fired m off_itself T 0 ≡ c₁
    unfolding fired after_tells after_tell after_told any
    apart-clashes c₁ near first dead =
        let on : lt_z (high m (T 0).fact) (low m (T 0).fact +ℤ pos 1) ≡ true = subst (λ (z : Cell F). lt_z (high m z.fact) (low m z.fact +ℤ pos 1) ≡ true) (sym at) near in
        let T₁ = after_told m 0 (m.stated (Between (low m (T 0).fact +ℤ pos 1) top)) (hers (T 0).reasons) T in
        let here : T₁ 0 ≡ c₁ = ap (λ (z : Cell F). told_cell m (m.stated (Between (low m z.fact +ℤ pos 1) top)) (hers z.reasons) z) at ∙ first in
        let T' = cond (lt_z (high m (T 0).fact) (low m (T 0).fact +ℤ pos 1)) T₁ T in
        let T'-is : T' ≡ T₁ = cond-true (lt_z (high m (T 0).fact) (low m (T 0).fact +ℤ pos 1)) T₁ T on in
        let there : T' 0 ≡ c₁ = ap (λ (Z : Table F). Z 0) T'-is ∙ here in
        ap (λ (Z : Table F). Z 0) (cond-false (none m (T 0).fact || (none m (T 0).fact || false)) _ _ apart_unstuck
        ∙ cond-true (none m (T' 0).fact) T' _ (subst (λ (z : Cell F). none m z.fact ≡ true) (sym there) dead))
        ∙ there
