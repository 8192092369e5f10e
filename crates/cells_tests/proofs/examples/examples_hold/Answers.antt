use Rattle.std.proofs.Common.{◌≡◌, ℕ, List, [], ◌∷◌, map, ℤ, pos, negsuc, ◌+ℤ◌, ◌-ℤ◌, None, refl, ap, ◌∙◌, ap₂}
use lib.Signed.{lt_z}
use Rattle.std.proofs.lemmas.List.Elements.{All-from_recursion}
use Rattle.statements.specs.Numbers.{top, bottom}
use Rattle.statements.specs.declared.statement.Statement.TheVariants.{Between}
use Rattle.kinds.specs.Span.{cut, cut_by, span_of, span_meet, span_model, span_stated}
use Rattle.kinds.specs.declared.span.Span.{Span}
use Rattle.kinds.specs.SpanLaws.{span-low, span-high, span_stated-between}
use Rattle.plan.specs.Placements.{Premises, owned_by}
use Rattle.plan.specs.declared.constraint.Constraint.{Constraint}
use Rattle.plan.specs.declared.constraint.Form.{Form}
use Rattle.plan.specs.declared.constraint.Form.TheVariants.{Sum, Apart}
use Rattle.telling.specs.Tables.{upd, facts, bare}
use Rattle.telling.specs.Firing.{fired}
use Rattle.cells_tests.specs.Examples.{Holds, examples, row, span}
use Rattle.cells_tests.proofs.Spans.{span-some, span_empty, tells-end, tells-step, tells_skip, tells_stop, fired-tells}
use Rattle.cells_tests.proofs.examples.examples_hold.Goals as goal

-- A constraint without an owner.
abbrev free : Form → Constraint
free q = record { owner = None; form = q }

abbrev unowned : Premises
unowned = owned_by None

-- A span merged with the Between of two ends, once these are known.
met : (f : Span) {a b : ℤ} (p q : ℤ) → a ≡ p → b ≡ q → span_meet f (span_stated (Between a b)) ≡ span_meet f (cut p q)
met f p q e g = ap (span_meet f) (ap₂ (λ x y. span_stated (Between x y)) e g ∙ span_stated-between p q)

-- ---- 2..3 and 10..20 into 0..15

abbrev sum₀ : ℕ → Span
sum₀ = row (span 2 3 ∷ span 10 20 ∷ span 0 15 ∷ [])

abbrev sum₁ : ℕ → Span
sum₁ = upd sum₀ 2 (span 12 15)

abbrev sum₂ : ℕ → Span
sum₂ = upd sum₁ 0 (span 2 3)

abbrev sum₃ : ℕ → Span
sum₃ = upd sum₂ 1 (span 10 13)

sum_fired : facts (fired span_model (free (Sum 0 1 2)) (bare sum₀)) ≡ sum₃
unfolding cut_by
sum_fired =
    fired-tells (free (Sum 0 1 2)) (bare sum₀) sum₃ (span-some _, (span-some _, (span-some _, tt)))
    (tells-step unowned _ _ (bare sum₀) sum₀ sum₃ refl (span 12 15) refl (met (span 0 15) (pos 12) (pos 23) (ap₂ ◌+ℤ◌ (span-low _) (span-low _)) (ap₂ ◌+ℤ◌ (span-high _) (span-high _))) (span-some _)
    (λ T e. tells-step unowned _ _ T sum₁ sum₃ e (span 2 3) refl (met (span 2 3) (negsuc 7) (pos 5) (ap₂ ◌-ℤ◌ (span-low _) (span-high _)) (ap₂ ◌-ℤ◌ (span-high _) (span-low _))) (span-some _)
    (λ T e. tells-step unowned _ _ T sum₂ sum₃ e (span 10 13) refl (met (span 10 20) (pos 9) (pos 13) (ap₂ ◌-ℤ◌ (span-low _) (span-high _)) (ap₂ ◌-ℤ◌ (span-high _) (span-low _))) (span-some _)
    (λ T e. tells-end unowned T sum₃ e))))

-- ---- 0..10 (4) and 2..3 (8) apart

abbrev apart₀ : ℕ → Span
apart₀ = row (span 0 10 ∷ span 2 3 ∷ [])

abbrev apart₁ : ℕ → Span
apart₁ = upd apart₀ 0 (span 10 10)

abbrev apart₂ : ℕ → Span
apart₂ = upd apart₁ 1 (span 2 2)

apart-fired : facts (fired span_model (free (Apart 0 4 1 8)) (bare apart₀)) ≡ apart₂
unfolding cut_by
apart-fired =
    fired-tells (free (Apart 0 4 1 8)) (bare apart₀) apart₂ (span-some _, (span-some _, tt))
    (tells-step unowned _ _ (bare apart₀) apart₀ apart₂ refl (span 10 10) (ap₂ (λ p q. lt_z p (q +ℤ pos 4)) (span-high _) (span-low _)) (met (span 0 10) (pos 10) top (ap (λ z. z +ℤ pos 8) (span-low _)) refl) (span-some _)
    (λ T e. tells-step unowned _ _ T apart₁ apart₂ e (span 2 2) (ap₂ (λ p q. lt_z p (q +ℤ pos 4)) (span-high _) (span-low _)) (met (span 2 3) bottom (pos 2) refl (ap (λ z. z -ℤ pos 8) (span-high _))) (span-some _)
    (λ T e. tells_skip unowned _ _ T apart₂ apart₂ e (ap₂ (λ p q. lt_z p (q +ℤ pos 8)) (span-high _) (span-low _)) (span-some _)
    (λ T e. tells_skip unowned _ _ T apart₂ apart₂ e (ap₂ (λ p q. lt_z p (q +ℤ pos 8)) (span-high _) (span-low _)) (span-some _)
    (λ T e. tells-end unowned T apart₂ e)))))

-- ---- M and 1

abbrev past₀ : ℕ → Span
past₀ = row (cut top top ∷ span 1 1 ∷ [])

past-fired : facts (fired span_model (free (Sum 0 1 2)) (bare past₀)) ≡ upd past₀ 2 (span_of None)
unfolding cut_by
past-fired =
    fired-tells (free (Sum 0 1 2)) (bare past₀) (upd past₀ 2 (span_of None)) (span-some _, (span-some _, (span-some _, tt)))
    (tells_stop unowned _ _ (bare past₀) past₀ (upd past₀ 2 (span_of None)) refl (span_of None) refl (met (cut bottom top) (pos 4294967296) (pos 4294967296) (ap₂ ◌+ℤ◌ (span-low _) (span-low _)) (ap₂ ◌+ℤ◌ (span-high _) (span-high _))) span_empty)

-- The cells of a list, of facts that are equal.
at : {φ ψ : ℕ → Span} (xs : List ℕ) → φ ≡ ψ → map φ xs ≡ map ψ xs
at xs e = ap (λ χ. map χ xs) e

pub returns : goal.returns
returns c = All-from_recursion Holds examples (at (0 ∷ 1 ∷ 2 ∷ []) sum_fired, (at (0 ∷ 1 ∷ []) apart-fired, (at (0 ∷ 1 ∷ 2 ∷ []) past-fired, tt)))
