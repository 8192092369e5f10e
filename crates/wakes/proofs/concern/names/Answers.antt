-- Each form compares the cell with every cell that it names.
use Rattle.std.proofs.Common.{◌≡◌, ℕ, Bool, ◌||◌, [], ◌∷◌, eqb, sym, ap, ◌∙◌}
use mathlib.Core.Bool.{or-false}
use Rattle.plan.specs.Forms.{named}
use Rattle.telling.specs.Tables.{any}
use Rattle.wakes.proofs.concern.names.Goals as goal

-- Of one cell, two or three, the last test stands alone.
module _ (is : ℕ → Bool) where
  any_one : (a : ℕ) → is a ≡ any is (a ∷ [])
  unfolding any
  any_one a = sym (or-false (is a))

  any_two : (a b : ℕ) → (is a || is b) ≡ any is (a ∷ b ∷ [])
  unfolding any
  any_two a b = ap (λ r. is a || r) (sym (or-false (is b)))

  any_three : (a b c : ℕ) → (is a || (is b || is c)) ≡ any is (a ∷ b ∷ c ∷ [])
  unfolding any
  any_three a b c = ap (λ r. is a || r) (any_two b c)

pub returns-in-State : goal.returns-in-State
returns-in-State c = any_one (λ x. eqb x c.args.cell) _ ∙ ap (λ f. any (λ x. eqb x c.args.cell) (named f)) (sym c.in-State.is)

pub returns-in-Sum : goal.returns-in-Sum
returns-in-Sum c = any_three (λ x. eqb x c.args.cell) _ _ _ ∙ ap (λ f. any (λ x. eqb x c.args.cell) (named f)) (sym c.in-Sum.is)

pub returns-in-Gap : goal.returns-in-Gap
returns-in-Gap c = any_two (λ x. eqb x c.args.cell) _ _ ∙ ap (λ f. any (λ x. eqb x c.args.cell) (named f)) (sym c.in-Gap.is)

pub returns-in-Apart : goal.returns-in-Apart
returns-in-Apart c = any_two (λ x. eqb x c.args.cell) _ _ ∙ ap (λ f. any (λ x. eqb x c.args.cell) (named f)) (sym c.in-Apart.is)
