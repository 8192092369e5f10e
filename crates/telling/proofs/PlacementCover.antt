-- A placement covers what allows its numbers.
use Rattle.std.proofs.Common.{◌≡◌, ℕ, true, false, List, ℤ, pos, ◌+ℤ◌, ◌-ℤ◌, ◌≤ℤ◌, ◌<ℤ◌, refl, ◌∙◌, arith}
use Rattle.std.proofs.lemmas.Float.{T_from_true}
use lib.Signed.{lt_z}
use Rattle.std.specs.List.{AllByRecursion}
use Rattle.std.proofs.lemmas.Int.{ints, clamps}
use Rattle.statements.specs.Between.{between}
use Rattle.statements.specs.Numbers.{top, bottom, InU, raised, lowered}
use Rattle.statements.specs.Statements.{allowed}
use Rattle.statements.specs.declared.statement.Statement.{Statement}
use Rattle.statements.proofs.Searches.{least_from_le, greatest_to_ge}
use Rattle.statements.proofs.Statements.{allowed_within}
use Rattle.statements.proofs.Tests.{inside_made}
use Rattle.facts.specs.Model.{Model}
use Rattle.facts.specs.Laws.{Laws}
use Rattle.facts.specs.Derived.{none, told}
use Rattle.facts.proofs.Order.{low_le, high_ge, none_no, start-allows, meet_allows_both}
use Rattle.facts.proofs.TidyLaws.{tidy_allows}
use Rattle.plan.specs.Forms.{named}
use Rattle.plan.specs.Placements.{Placement, Placed, Satisfies, owned_by}
use Rattle.plan.specs.declared.constraint.Constraint.{Constraint}
use Rattle.plan.specs.declared.constraint.Form.{Form}
use Rattle.plan.specs.declared.constraint.Form.TheVariants.{State, Sum, Gap, Apart}
use Rattle.forms.specs.Tells.{tells, reads, up, down, holds, said}
use Rattle.forms.specs.declared.tell.Tell.{Tell}
use Rattle.telling.specs.Reasons.{Reasons, Among, every_reason, premises_only}
use Rattle.telling.specs.Telling.{lows, highs}
use Rattle.telling.specs.Theorems.{LosesNone}
use Rattle.telling.proofs.Cases.{any_clash, all_of, all_weaker}
use Rattle.telling.proofs.Cover.{Cover, Fair, FairTell, FairDead, fired-sound}

-- Cell x's number lies from lo x to hi x.
abbrev Around : (v : Placement) (lo hi : ℕ → ℤ) → ℕ → Type 0
Around v lo hi x = (lo x ≤ℤ v x) × (v x ≤ℤ hi x)

pub up_least : (s : Statement) (n v : ℤ) → n ≤ℤ v → allowed s v ≡ true → up s n ≤ℤ v
unfolding up
up_least s n v h e = least_from_le (allowed s) (allowed_within s) (top +ℤ pos 1) n v h e

pub down_greatest : (s : Statement) (n v : ℤ) → v ≤ℤ n → allowed s v ≡ true → v ≤ℤ down s n
unfolding down
down_greatest s n v h e = greatest_to_ge (allowed s) (allowed_within s) (bottom -ℤ pos 1) n v h e

between_made : (lo hi n : ℤ) → InU n → lo ≤ℤ n → n ≤ℤ hi → between lo hi n ≡ true
between_made lo hi n u p q = let a = u.0 in let b = u.1 in inside_made (raised lo) (lowered hi) n (omega (arith, ints, clamps)) (omega (arith, ints, clamps))

less_of : (a b : ℤ) → lt_z a b ≡ true → a <ℤ b
less_of a b e = record { lt = T_from_true (lt_z a b) e }

module _ (v : Placement) (P : Placed v) where
  -- What the tell says, wherever the cells that it reads lie around the placement, allows its target's number.
  abbrev Right : Tell → Type 0
  Right t = (lo hi : ℕ → ℤ) → AllByRecursion (Around v lo hi) (reads t) → holds lo hi t.condition ≡ true → allowed (said lo hi t.saying) (v t.target) ≡ true

  -- The tells of a form that the placement satisfies are right.
  satisfied_right : (q : Form) → Satisfies v q → AllByRecursion Right (tells q)
  satisfied_right (State c s) h = (
    λ lo hi r o. h,
    (λ lo hi r o. between_made (up s (lo c)) (down s (hi c)) (v c) (P c) (up_least s (lo c) (v c) r.0.0 h) (down_greatest s (hi c) (v c) r.0.1 h), tt),
  )
  satisfied_right (Sum a b c) h = (
    λ lo hi r o. let p = r.0.0 in let q = r.0.1 in let s = r.1.0.0 in let t = r.1.0.1 in between_made (lo a +ℤ lo b) (hi a +ℤ hi b) (v c) (P c) (omega (arith, ints)) (omega (arith, ints)),
    (
      λ lo hi r o. let p = r.0.0 in let q = r.0.1 in let s = r.1.0.0 in let t = r.1.0.1 in between_made (lo c -ℤ hi b) (hi c -ℤ lo b) (v a) (P a) (omega (arith, ints)) (omega (arith, ints)),
      (λ lo hi r o. let p = r.0.0 in let q = r.0.1 in let s = r.1.0.0 in let t = r.1.0.1 in between_made (lo c -ℤ hi a) (hi c -ℤ lo a) (v b) (P b) (omega (arith, ints)) (omega (arith, ints)), tt),
    ),
  )
  satisfied_right (Gap a d b) h = (
    λ lo hi r o. let p = r.0.0 in between_made (lo a +ℤ d) top (v b) (P b) (omega (arith, ints)) (P b).1,
    (λ lo hi r o. let p = r.0.1 in between_made bottom (hi b -ℤ d) (v a) (P a) (P a).0 (omega (arith, ints)), tt),
  )
  satisfied_right (Apart a d b e) h = (
    λ lo hi r o. let p = r.0.0 in let q = r.1.0.1 in let s = r.1.1.0.0 in let w = less_of (hi b) (lo a +ℤ pos d) o in between_made (lo b +ℤ pos e) top (v a) (P a) (omega (arith, ints)) (P a).1,
    (
      λ lo hi r o. let p = r.0.0 in let q = r.1.0.1 in let s = r.1.1.0.1 in let w = less_of (hi b) (lo a +ℤ pos d) o in between_made bottom (hi a -ℤ pos e) (v b) (P b) (P b).0 (omega (arith, ints)),
      (
        λ lo hi r o. let p = r.0.0 in let q = r.1.0.1 in let s = r.1.1.0.0 in let w = less_of (hi a) (lo b +ℤ pos e) o in between_made (lo a +ℤ pos d) top (v b) (P b) (omega (arith, ints)) (P b).1,
        (λ lo hi r o. let p = r.0.0 in let q = r.1.0.1 in let s = r.1.1.0.1 in let w = less_of (hi a) (lo b +ℤ pos e) o in between_made bottom (hi b -ℤ pos d) (v a) (P a) (P a).0 (omega (arith, ints)), tt),
      ),
    ),
  )

  module _ {F : Type 0} (m : Model F) (l : Laws m) (r : Reasons) where
    -- What allows the placement's number is covered.
    pub placement_cover : Cover m
    unfolding told
    placement_cover = record {
      r = r;
      Covers = λ x f. m.allows f (v x) ≡ true;
      covers_start = λ x. start-allows m l (v x) (P x);
      covers_told = λ x f g p q. tidy_allows m l (m.meet f g) (v x) ∙ meet_allows_both m l f g (v x) p q;
      covers_tidy = λ x g p. tidy_allows m l g (v x) ∙ p;
    }

    around : (φ : ℕ → F) (xs : List ℕ) → AllByRecursion (λ x. m.allows (φ x) (v x) ≡ true) xs → AllByRecursion (Around v (lows m φ) (highs m φ)) xs
    around φ xs h =
        all_weaker (λ x. m.allows (φ x) (v x) ≡ true) (Around v (lows m φ) (highs m φ)) (λ x p. (low_le m l (φ x) (v x) p, high_ge m l (φ x) (v x) p)) xs h

    no_conflict : (φ : ℕ → F) (xs : List ℕ) → AllByRecursion (λ x. m.allows (φ x) (v x) ≡ true) xs → AllByRecursion (λ x. none m (φ x) ≡ false) xs
    no_conflict φ xs h = all_weaker (λ x. m.allows (φ x) (v x) ≡ true) (λ x. none m (φ x) ≡ false) (λ x p. none_no m l (φ x) (v x) p) xs h

    -- A constraint that the placement satisfies, if its premises count, is fair.
    pub satisfied_fair : (k : Constraint) → (Among (premises_only (owned_by k.owner)) r → Satisfies v k.form) → Fair m l placement_cover k
    unfolding placement_cover
    satisfied_fair k sat =
        let q = k.form in
        record {
          fair_tells = λ held.
              all_weaker Right (FairTell m l placement_cover)
              (λ t right φ cov made. l.stated_allows (said (lows m φ) (highs m φ) t.saying) (v t.target) (right (lows m φ) (highs m φ) (around φ (reads t) cov) made))
              (tells q) (satisfied_right q (sat held));
          fair_deads = λ held. all_of (FairDead m l placement_cover (named q)) (λ y φ cov e. any_clash (λ x. none m (φ x)) (named q) (no_conflict φ (named q) cov) e) (named q);
        }

pub loses_none : {F : Type 0} (m : Model F) → Laws m → LosesNone m
unfolding placement_cover
loses_none m l = record {
  lies_stays = λ k v p sat T h x. fired-sound m l (placement_cover v p m l every_reason) k (satisfied_fair v p m l every_reason k (λ _. sat)) T (λ y _. h y) x (λ t e. refl);
  lies_by_reasons = λ k v p r sat T h. fired-sound m l (placement_cover v p m l r) k (satisfied_fair v p m l r k sat) T h;
}
