-- Whether a form has anything new to say is a matter of the cells that it names.
use Rattle.std.proofs.Common.{◌≡◌, ℕ, Bool, ◌||◌, List, [], ◌∷◌, ℤ, ◌+ℤ◌, ◌-ℤ◌, sym, refl, ap, ◌∙◌, ap₂, inl, inr, ⊎_elim}
use lib.Signed.{lt_z}
use Rattle.std.specs.List.{AllByRecursion}
use Rattle.statements.specs.Numbers.{top, bottom}
use Rattle.statements.specs.declared.statement.Statement.TheVariants.{Between}
use Rattle.facts.specs.Model.{Model}
use Rattle.facts.specs.Derived.{low, high, none, dead, told}
use Rattle.plan.specs.Forms.{named}
use Rattle.plan.specs.declared.constraint.Form.{Form}
use Rattle.plan.specs.declared.constraint.Form.TheVariants.{State, Sum, Gap, Apart}
use Rattle.forms.specs.Tells.{tells, reads, condition_reads, saying_reads, up, down, holds, said}
use Rattle.forms.specs.declared.tell.Condition.{Condition}
use Rattle.forms.specs.declared.tell.Condition.TheVariants.{Always, Above}
use Rattle.forms.specs.declared.tell.Saying.{Saying}
use Rattle.forms.specs.declared.tell.Saying.TheVariants.{Stated, Cut, Plus, Minus, From, UpTo}
use Rattle.forms.specs.declared.tell.Tell.{Tell}
use Rattle.telling.specs.Tables.{any}
use Rattle.telling.specs.Telling.{lows, highs, said_fact}
use Rattle.telling.specs.Firing.{any_in_conflict}
use Rattle.telling.proofs.Cases.{all_left, all_right, all_both, all_weaker}
use Rattle.telling.proofs.Fires.{CalmTell, Calm}

-- Cell x lies between the same ends.
abbrev Alike : (lo hi lo' hi' : ℕ → ℤ) → ℕ → Type 0
Alike lo hi lo' hi' x = (lo x ≡ lo' x) × (hi x ≡ hi' x)

said_local : (lo hi lo' hi' : ℕ → ℤ) (s : Saying) → AllByRecursion (Alike lo hi lo' hi') (saying_reads s) → said lo hi s ≡ said lo' hi' s
said_local lo hi lo' hi' (Stated s) h = refl
said_local lo hi lo' hi' (Cut x s) h = ap₂ (λ a b. Between (up s a) (down s b)) h.0.0 h.0.1
said_local lo hi lo' hi' (Plus x y) h = ap₂ Between (ap₂ ◌+ℤ◌ h.0.0 h.1.0.0) (ap₂ ◌+ℤ◌ h.0.1 h.1.0.1)
said_local lo hi lo' hi' (Minus x y) h = ap₂ Between (ap₂ ◌-ℤ◌ h.0.0 h.1.0.1) (ap₂ ◌-ℤ◌ h.0.1 h.1.0.0)
said_local lo hi lo' hi' (From x d) h = ap (λ a. Between (a +ℤ d) top) h.0.0
said_local lo hi lo' hi' (UpTo x d) h = ap (λ a. Between bottom (a -ℤ d)) h.0.1

holds_local : (lo hi lo' hi' : ℕ → ℤ) (c : Condition) → AllByRecursion (Alike lo hi lo' hi') (condition_reads c) → holds lo hi c ≡ holds lo' hi' c
holds_local lo hi lo' hi' Always h = refl
holds_local lo hi lo' hi' (Above a d b) h = ap₂ (λ p q. lt_z p (q +ℤ d)) h.1.0.1 h.0.0

-- What a form's tells read and tell is among the cells that it names.
pub tells_closed : (P : ℕ → Type 0) (q : Form) → AllByRecursion P (named q) → AllByRecursion (λ t. AllByRecursion P (reads t) × P t.target) (tells q)
tells_closed P (State c s) h = ((tt, h.0), (((h.0, tt), h.0), tt))
tells_closed P (Sum a b c) h =
    let pa = h.0 in let pb = h.1.0 in let pc = h.1.1.0 in
    (((pa, (pb, tt)), pc), (((pc, (pb, tt)), pa), (((pc, (pa, tt)), pb), tt)))
tells_closed P (Gap a d b) h =
    let pa = h.0 in let pb = h.1.0 in
    (((pa, tt), pb), (((pb, tt), pa), tt))
tells_closed P (Apart a d b e) h =
    let pa = h.0 in let pb = h.1.0 in (
      ((pa, (pb, (pb, tt))), pa),
      (((pa, (pb, (pa, tt))), pb), (((pb, (pa, (pa, tt))), pb), (((pb, (pa, (pb, tt))), pa), tt))),
    )

any_local : {A : Type 0} (p q : A → Bool) (xs : List A) → AllByRecursion (λ x. p x ≡ q x) xs → any p xs ≡ any q xs
unfolding any
any_local p q [] h = refl
any_local p q (x ∷ xs) h = ap₂ ◌||◌ h.0 (any_local p q xs h.1)

module _ {F : Type 0} (m : Model F) where
  calm_tell_local : (φ ψ : ℕ → F) (t : Tell) → AllByRecursion (λ x. φ x ≡ ψ x) (reads t) × (φ t.target ≡ ψ t.target) → CalmTell m φ t → CalmTell m ψ t
  calm_tell_local φ ψ t h c made =
      let cs = condition_reads t.condition in
      let ss = saying_reads t.saying in
      let A = Alike (lows m φ) (highs m φ) (lows m ψ) (highs m ψ) in
      let near : AllByRecursion A (reads t) = all_weaker (λ x. φ x ≡ ψ x) A (λ x e. (ap (low m) e, ap (high m) e)) (reads t) h.0 in
      let made-is = holds_local (lows m φ) (highs m φ) (lows m ψ) (highs m ψ) t.condition (all_left A cs ss near) in
      let said-is : said_fact m φ t ≡ said_fact m ψ t = ap m.stated (said_local (lows m φ) (highs m φ) (lows m ψ) (highs m ψ) t.saying (all_right A cs ss near)) in
      ap (λ z. told m z (ψ t.target)) (sym said-is) ∙ ap (told m (said_fact m φ t)) (sym h.1) ∙ c (made-is ∙ made) ∙ h.1

  -- Facts that agree on the cells that a form names leave it as calm.
  pub calm_local : (φ ψ : ℕ → F) (q : Form) → AllByRecursion (λ x. φ x ≡ ψ x) (named q) → Calm m φ q → Calm m ψ q
  calm_local φ ψ q h c =
      let same : any_in_conflict m φ (named q) ≡ any_in_conflict m ψ (named q) =
      any_local (λ x. none m (φ x)) (λ x. none m (ψ x)) (named q) (all_weaker (λ x. φ x ≡ ψ x) (λ x. none m (φ x) ≡ none m (ψ x)) (λ x e. ap (none m) e) (named q) h) in
      ⊎_elim
      (λ d. inl (sym same ∙ d.0, all_both (λ x. φ x ≡ ψ x) (λ x. φ x ≡ dead m) (λ x. ψ x ≡ dead m) (λ x e f. sym e ∙ f) (named q) h d.1))
      (λ d. inr (
        sym same ∙ d.0,
        all_both (λ t. AllByRecursion (λ x. φ x ≡ ψ x) (reads t) × (φ t.target ≡ ψ t.target)) (CalmTell m φ) (CalmTell m ψ) (calm_tell_local φ ψ) (tells q) (tells_closed (λ x. φ x ≡ ψ x) q h) d.1,
      ))
      c
