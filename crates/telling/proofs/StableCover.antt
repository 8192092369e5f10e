-- A stable table covers what it tells at least as much as.
use Rattle.std.proofs.Common.{◌≡◌, ℕ, true, List, ℤ, pos, ◌+ℤ◌, ◌-ℤ◌, ◌≤ℤ◌, ◌<ℤ◌, sym, refl, subst, ⊎_elim, arith}
use Rattle.std.proofs.lemmas.Float.{T_from_true}
use lib.Signed.{lt_z, ≤ℤ_refl}
use Rattle.std.specs.List.{AllByRecursion}
use Rattle.std.proofs.lemmas.Int.{ints}
use Rattle.statements.specs.Numbers.{top, bottom}
use Rattle.statements.specs.Statements.{allowed}
use Rattle.statements.specs.declared.statement.Statement.{Statement}
use Rattle.statements.proofs.Searches.{least_from_mono, greatest_to_mono}
use Rattle.statements.proofs.Statements.{allowed_within}
use Rattle.statements.proofs.Tests.{test_clash}
use Rattle.facts.specs.Model.{Model, Tells}
use Rattle.facts.specs.Laws.{Laws}
use Rattle.facts.specs.Derived.{none, tidy, dead}
use Rattle.facts.proofs.Order.{tells-refl, tells_trans, dead-tells, low_mono, high_mono, none_mono, between_mono}
use Rattle.facts.proofs.TidyLaws.{tidy_mono, tidy_start}
use Rattle.plan.specs.Forms.{named}
use Rattle.plan.specs.Placements.{Premises, owned_by, InForce}
use Rattle.plan.specs.declared.constraint.Constraint.{Constraint}
use Rattle.forms.specs.Tells.{tells, condition_reads, saying_reads, up, down, holds, said}
use Rattle.forms.specs.declared.tell.Condition.{Condition}
use Rattle.forms.specs.declared.tell.Condition.TheVariants.{Always, Above}
use Rattle.forms.specs.declared.tell.Saying.{Saying}
use Rattle.forms.specs.declared.tell.Saying.TheVariants.{Stated, Cut, Plus, Minus, From, UpTo}
use Rattle.forms.specs.declared.tell.Tell.{Tell}
use Rattle.telling.specs.Reasons.{premise, Reasons, Among, every_reason, premises_only}
use Rattle.telling.specs.Tables.{bare}
use Rattle.telling.specs.Telling.{lows, highs, is_made, said_fact}
use Rattle.telling.specs.Firing.{any_in_conflict, fired}
use Rattle.telling.specs.Stable as stable
use Rattle.telling.specs.Stable.{Still, Tidy}
use Rattle.telling.specs.Theorems.{TellsNoMore}
use Rattle.telling.proofs.Cases.{all_left, all_right, any_implied, all_of, all_weaker}
use Rattle.telling.proofs.Tells.{told-says, told-least}
use Rattle.telling.proofs.Fires.{CalmTell, tells_targets, fired-still}
use Rattle.telling.proofs.Cover.{Cover, Fair, FairTell, FairDead, fired-sound}

-- ---- ends that lie further in

-- Cell x lies from lo' x to hi' x within lo x to hi x.
abbrev Closer : (lo hi lo' hi' : ℕ → ℤ) → ℕ → Type 0
Closer lo hi lo' hi' x = (lo x ≤ℤ lo' x) × (hi' x ≤ℤ hi x)

less_mono : (x y x' y' : ℤ) → x' ≤ℤ x → y ≤ℤ y' → lt_z x y ≡ true → lt_z x' y' ≡ true
less_mono x y x' y' p q e = let r : x <ℤ y = record { lt = T_from_true (lt_z x y) e } in grind (arith, ints)

-- A condition that holds goes on holding.
pub holds_mono : (lo hi lo' hi' : ℕ → ℤ) (c : Condition) → AllByRecursion (Closer lo hi lo' hi') (condition_reads c) → holds lo hi c ≡ true → holds lo' hi' c ≡ true
holds_mono lo hi lo' hi' Always h e = refl
holds_mono lo hi lo' hi' (Above a d b) h e =
    less_mono (hi b) (lo a +ℤ d) (hi' b) (lo' a +ℤ d) h.1.0.1 (let p : lo a ≤ℤ lo' a = h.0.0 in omega (arith, ints)) e

pub up_mono : (s : Statement) (n m : ℤ) → n ≤ℤ m → up s n ≤ℤ up s m
unfolding up
up_mono s n m h = least_from_mono (allowed s) (allowed_within s) (top +ℤ pos 1) n m (omega (arith, ints)) h

pub down_mono : (s : Statement) (n m : ℤ) → n ≤ℤ m → down s n ≤ℤ down s m
unfolding down
down_mono s n m h = greatest_to_mono (allowed s) (allowed_within s) (bottom -ℤ pos 1) n m (omega (arith, ints)) h

module _ {F : Type 0} (m : Model F) (l : Laws m) where
  closer : (φ ψ : ℕ → F) (xs : List ℕ) → AllByRecursion (λ x. Tells m (ψ x) (φ x)) xs → AllByRecursion (Closer (lows m φ) (highs m φ) (lows m ψ) (highs m ψ)) xs
  closer φ ψ xs h =
      all_weaker (λ x. Tells m (ψ x) (φ x)) (Closer (lows m φ) (highs m φ) (lows m ψ) (highs m ψ))
      (λ x p. (low_mono m l (ψ x) (φ x) p, high_mono m l (ψ x) (φ x) p)) xs h

  -- Of facts that tell more, more is said.
  said_mono : (lo hi lo' hi' : ℕ → ℤ) (s : Saying) → AllByRecursion (Closer lo hi lo' hi') (saying_reads s) → Tells m (m.stated (said lo' hi' s)) (m.stated (said lo hi s))
  said_mono lo hi lo' hi' (Stated s) h = tells-refl m l (m.stated s)
  said_mono lo hi lo' hi' (Cut x s) h = between_mono m l (up s (lo' x)) (down s (hi' x)) (up s (lo x)) (down s (hi x)) (up_mono s (lo x) (lo' x) h.0.0) (down_mono s (hi' x) (hi x) h.0.1)
  said_mono lo hi lo' hi' (Plus x y) h =
      let a : lo x ≤ℤ lo' x = h.0.0 in
      let b : hi' x ≤ℤ hi x = h.0.1 in
      let c : lo y ≤ℤ lo' y = h.1.0.0 in
      let d : hi' y ≤ℤ hi y = h.1.0.1 in
      between_mono m l (lo' x +ℤ lo' y) (hi' x +ℤ hi' y) (lo x +ℤ lo y) (hi x +ℤ hi y) (omega (arith, ints)) (omega (arith, ints))
  said_mono lo hi lo' hi' (Minus x y) h =
      let a : lo x ≤ℤ lo' x = h.0.0 in
      let b : hi' x ≤ℤ hi x = h.0.1 in
      let c : lo y ≤ℤ lo' y = h.1.0.0 in
      let d : hi' y ≤ℤ hi y = h.1.0.1 in
      between_mono m l (lo' x -ℤ hi' y) (hi' x -ℤ lo' y) (lo x -ℤ hi y) (hi x -ℤ lo y) (omega (arith, ints)) (omega (arith, ints))
  said_mono lo hi lo' hi' (From x d) h =
      let a : lo x ≤ℤ lo' x = h.0.0 in
      between_mono m l (lo' x +ℤ d) top (lo x +ℤ d) top (omega (arith, ints)) (≤ℤ_refl top)
  said_mono lo hi lo' hi' (UpTo x d) h =
      let b : hi' x ≤ℤ hi x = h.0.1 in
      between_mono m l bottom (hi' x -ℤ d) bottom (hi x -ℤ d) (≤ℤ_refl bottom) (omega (arith, ints))

  -- A tell that is made of facts is made of facts that tell more.
  pub is_made_mono : (φ ψ : ℕ → F) (t : Tell) → AllByRecursion (λ x. Tells m (ψ x) (φ x)) (condition_reads t.condition) → is_made m φ t ≡ true → is_made m ψ t ≡ true
  is_made_mono φ ψ t h e = holds_mono (lows m φ) (highs m φ) (lows m ψ) (highs m ψ) t.condition (closer φ ψ (condition_reads t.condition) h) e

  -- ---- the cover

  module _ (r : Reasons) (ψ : ℕ → F) (neat : Tidy m ψ) where
    -- What ψ tells at least as much as is covered.
    pub stable_cover : Cover m
    stable_cover = record {
      r = r;
      Covers = λ x f. Tells m (ψ x) f;
      covers_start = λ x. tidy_start m l (ψ x) (neat x);
      covers_told = λ x f g p q. told-least m l (ψ x) g f (neat x) p q;
      covers_tidy = λ x g p. subst (λ z. Tells m z (tidy m g)) (neat x) (tidy_mono m l (ψ x) g p);
    }

    conflict_mono : (φ : ℕ → F) (xs : List ℕ) → AllByRecursion (λ x. Tells m (ψ x) (φ x)) xs → any_in_conflict m φ xs ≡ true → any_in_conflict m ψ xs ≡ true
    conflict_mono φ xs cov e =
        any_implied (λ x. none m (φ x)) (λ x. none m (ψ x)) xs
        (all_weaker (λ x. Tells m (ψ x) (φ x)) (λ x. none m (φ x) ≡ true → none m (ψ x) ≡ true) (λ x p. none_mono m l (ψ x) (φ x) p) xs cov) e

    calm_fair : (t : Tell) → CalmTell m ψ t → FairTell m l stable_cover t
    unfolding stable_cover
    calm_fair t c φ cov made =
        let cs = condition_reads t.condition in
        let ss = saying_reads t.saying in
        let P = λ (x : ℕ). Tells m (ψ x) (φ x) in
        let made' = is_made_mono φ ψ t (all_left P cs ss cov) made in
        tells_trans m l (ψ t.target) (said_fact m ψ t) (said_fact m φ t)
        (subst (λ z. Tells m z (said_fact m ψ t)) (c made') (told-says m l (said_fact m ψ t) (ψ t.target)))
        (said_mono (lows m φ) (highs m φ) (lows m ψ) (highs m ψ) t.saying (closer φ ψ ss (all_right P cs ss cov)))

    -- A constraint that changes nothing of ψ, if its premises count, is fair.
    pub still_fair : (k : Constraint) → (Among (premises_only (owned_by k.owner)) r → Still m k ψ) → Fair m l stable_cover k
    unfolding stable_cover
    still_fair k st =
        let q = k.form in
        record {
          fair_tells = λ held.
              ⊎_elim
              (λ d. all_weaker (λ t. ψ t.target ≡ dead m) (FairTell m l stable_cover)
              (λ t e φ cov made. subst (λ z. Tells m z (said_fact m φ t)) (sym e) (dead-tells m l (said_fact m φ t)))
              (tells q) (tells_targets (λ x. ψ x ≡ dead m) q d.1))
              (λ c. all_weaker (CalmTell m ψ) (FairTell m l stable_cover) calm_fair (tells q) c.1)
              (fired-still m l k (bare ψ) (st held));
          fair_deads = λ held.
              ⊎_elim
              (λ d. all_weaker (λ x. ψ x ≡ dead m) (FairDead m l stable_cover (named q))
              (λ x e φ cov c. subst (λ z. Tells m z (dead m)) (sym e) (tells-refl m l (dead m)))
              (named q) d.1)
              (λ c. all_of (FairDead m l stable_cover (named q)) (λ x φ cov e. test_clash (conflict_mono φ (named q) cov e) c.0) (named q))
              (fired-still m l k (bare ψ) (st held));
        }

  among_every : (r : Reasons) → Among r every_reason
  among_every r t e = refl

  -- A constraint whose premises are among those of s is in force under s.
  force-among : (s : Premises) (k : Constraint) → Among (premises_only (owned_by k.owner)) (premises_only s) → InForce s k
  force-among s k h p e = h (premise p) e

  pub tells_no_more : TellsNoMore m
  unfolding stable_cover
  tells_no_more = record {
    above_stays = λ ks s φ st T ab.
        all_weaker (λ k. InForce s k → Still m k φ) (λ k. InForce s k → stable.Above m φ (fired m k T))
        (λ k still force x.
        fired-sound m l (stable_cover every_reason φ st.tidy) k (still_fair every_reason φ st.tidy k (λ h. still force)) T (λ y h. ab y) x
        (among_every (fired m k T x).reasons))
        ks st.still;
    above_by_reasons = λ ks s φ st T ab.
        all_weaker (λ k. InForce s k → Still m k φ) (λ k. stable.AboveBy m (premises_only s) φ (fired m k T))
        (λ k still.
        fired-sound m l (stable_cover (premises_only s) φ st.tidy) k (still_fair (premises_only s) φ st.tidy k (λ h. still (force-among s k h))) T ab)
        ks st.still;
  }
