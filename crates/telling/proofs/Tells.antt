-- What a fact or a cell is after being told.
use Rattle.std.proofs.Common.{◌≡◌, cond, sym, refl, subst}
use Rattle.std.proofs.lemmas.Bool.{cond_both}
use Rattle.facts.specs.Model.{Model, Tells}
use Rattle.facts.specs.Laws.{Laws}
use Rattle.facts.specs.Derived.{tidy, dead, told}
use Rattle.facts.proofs.Order.{tells_trans, tells-dead, meet-tells_right, meet-least}
use Rattle.facts.proofs.TidyLaws.{tidy_tells, tidy_mono, told-tells}
use Rattle.telling.specs.Reasons.{Reasons, together}
use Rattle.telling.specs.Tables.{Cell}
use Rattle.telling.specs.Telling.{told_cell}

module _ {F : Type 0} (m : Model F) (l : Laws m) where
  -- A fact that was told g tells at least g.
  pub told-says : (g f : F) → Tells m (told m g f) g
  unfolding told
  told-says g f = tells_trans m l (tidy m (m.meet f g)) (m.meet f g) g (tidy_tells m l (m.meet f g)) (meet-tells_right m l f g)

  -- A tidy fact that tells at least both parts tells at least the one told the other.
  pub told-least : (h g f : F) → tidy m h ≡ h → Tells m h f → Tells m h g → Tells m h (told m g f)
  unfolding told
  told-least h g f n p q = subst (λ z. Tells m z (tidy m (m.meet f g))) n (tidy_mono m l h (m.meet f g) (meet-least m l h f g p q))

  pub told-dead : (f : F) → told m (dead m) f ≡ dead m
  told-dead f = tells-dead m l (told m (dead m) f) (told-says (dead m) f)

  pub told_cell-fact : (g : F) (s : Reasons) (c : Cell F) → (told_cell m g s c).fact ≡ told m g c.fact
  unfolding told_cell
  told_cell-fact g s c =
      let h = told m g c.fact in
      cond_both (m.equal h c.fact) c (record { fact = h; reasons = cond (m.equal h (tidy m g)) s (together c.reasons s) })
      (λ (z : Cell F). z.fact ≡ h)
      (λ e. sym ((l.equal_decides h c.fact).0 e))
      (λ e. refl)

  pub told_cell-tells : (g : F) (s : Reasons) (c : Cell F) → Tells m (told_cell m g s c).fact c.fact
  told_cell-tells g s c = subst (λ z. Tells m z c.fact) (sym (told_cell-fact g s c)) (told-tells m l g c.fact)
