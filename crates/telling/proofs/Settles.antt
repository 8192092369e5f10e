-- In an exact kind, what is settled and still is right.
use Rattle.std.proofs.Common.{◌≡◌, ℕ, true, false, ℤ, pos, ◌+ℤ◌, ◌≤ℤ◌, sym, refl, ◌∙◌, subst, inl, inr, ⊎_elim, arith}
use Rattle.std.specs.List.{AllByRecursion}
use Rattle.std.proofs.lemmas.Int.{ints, clamps, by_lt_z}
use Rattle.statements.specs.Numbers.{top, InU, raised, lowered}
use Rattle.statements.specs.Statements.{allowed}
use Rattle.statements.specs.declared.statement.Statement.{Statement}
use Rattle.statements.specs.declared.statement.Statement.TheVariants.{Between}
use Rattle.statements.proofs.Searches.{least_from_ge, least_from-allowed}
use Rattle.statements.proofs.Statements.{allowed_within}
use Rattle.statements.proofs.Tests.{inside_of}
use Rattle.facts.specs.Model.{Model, Tells}
use Rattle.facts.specs.Laws.{Laws, Exact}
use Rattle.facts.specs.Derived.{low, high, none, told}
use Rattle.facts.proofs.Order.{tells-allows, low-allowed, low_in}
use Rattle.plan.specs.Forms.{named}
use Rattle.plan.specs.Placements.{Satisfies}
use Rattle.plan.specs.declared.constraint.Form.{Form}
use Rattle.plan.specs.declared.constraint.Form.TheVariants.{State, Sum, Gap, Apart}
use Rattle.forms.specs.Tells.{tells, up, down}
use Rattle.telling.specs.Tables.{bare}
use Rattle.telling.specs.Stable.{One}
use Rattle.telling.specs.Theorems.{SettlesRight}
use Rattle.telling.proofs.Cases.{any_clash, all_weaker}
use Rattle.telling.proofs.Tells.{told-says}
use Rattle.telling.proofs.Fires.{CalmTell, fired-still}

-- A number of U that is the least of the statement from itself up is allowed.
up-allowed : (s : Statement) (n : ℤ) → InU n → up s n ≤ℤ n → allowed s n ≡ true
unfolding up
up-allowed s n u h =
    let d = top +ℤ pos 1 in
    let t = u.1 in
    let ge = least_from_ge (allowed s) (allowed_within s) d n (omega (arith, ints)) in
    subst (λ z. allowed s z ≡ true) (omega (arith, ints)) (least_from-allowed (allowed s) (allowed_within s) d n (omega (arith, ints)))

module _ {F : Type 0} (m : Model F) (l : Laws m) (exact : Exact m) (φ : ℕ → F) where
  -- A Between that tells a settled cell nothing new holds of its number.
  ranged : (lo hi : ℤ) (x : ℕ) → One m φ x → told m (m.stated (Between lo hi)) (φ x) ≡ φ x → (lo ≤ℤ low m (φ x)) × (low m (φ x) ≤ℤ hi)
  ranged lo hi x one e =
      let g = m.stated (Between lo hi) in
      let n = low m (φ x) in
      let yes = tells-allows m l (φ x) g n (subst (λ z. Tells m z g) e (told-says m l g (φ x))) (low-allowed m l (φ x) one.0) in
      let i = inside_of (raised lo) (lowered hi) n (sym (exact lo hi n) ∙ yes) in
      (omega (arith, ints, clamps), omega (arith, ints, clamps))

  calm_satisfied : (q : Form) → AllByRecursion (One m φ) (named q) → AllByRecursion (CalmTell m φ) (tells q) → Satisfies (λ x. low m (φ x)) q
  calm_satisfied (State c s) n h =
      let r = ranged (up s (low m (φ c))) (down s (high m (φ c))) c n.0 (h.1.0 refl) in
      up-allowed s (low m (φ c)) (low_in m l (φ c)) r.0
  calm_satisfied (Sum a b c) n h =
      let r = ranged (low m (φ a) +ℤ low m (φ b)) (high m (φ a) +ℤ high m (φ b)) c n.1.1.0 (h.0 refl) in
      let p = r.0 in let q = r.1 in
      let ea = n.0.1 in let eb = n.1.0.1 in
      omega (arith, ints)
  calm_satisfied (Gap a d b) n h = (ranged (low m (φ a) +ℤ d) top b n.1.0 (h.0 refl)).0
  calm_satisfied (Apart a d b e) n h =
      by_lt_z (high m (φ b)) (low m (φ a) +ℤ pos d)
      (λ w. inr (ranged (low m (φ b) +ℤ pos e) top a n.0 (h.0 (grind (arith, ints)))).0)
      (λ w. let eb = n.1.0.1 in inl (omega (arith, ints)))

pub settles_right : {F : Type 0} (m : Model F) → Laws m → SettlesRight m
settles_right m l exact k φ one still =
    ⊎_elim
    (λ d. any_clash (λ x. none m (φ x)) (named k.form) (all_weaker (One m φ) (λ x. none m (φ x) ≡ false) (λ x o. o.0) (named k.form) one) d.0)
    (λ c. calm_satisfied m l exact φ k.form one c.1)
    (fired-still m l k (bare φ) still)
