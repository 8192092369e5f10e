-- When a placement satisfies a constraint, and when it meets a set of premises.
use Rattle.std.specs.Prelude.{◌≡◌, ℕ, Bool, true, false, ◌⊎◌, List, [], ◌∷◌, ℤ, pos, ◌+ℤ◌, ◌≤ℤ◌, Some, None, Option, ◌==◌}
use Rattle.statements.specs.Numbers.{InU}
use Rattle.statements.specs.Statements.{allowed}
use Rattle.plan.specs.declared.constraint.Constraint.{Constraint}
use Rattle.plan.specs.declared.constraint.Form.{Form}
use Rattle.plan.specs.declared.constraint.Form.TheVariants.{State, Sum, Gap, Apart}

-- a number for each cell
abbrev pub Placement : Type 0
Placement = ℕ → ℤ

-- each cell's number is one of U
abbrev pub Placed : Placement → Type 0
Placed v = (c : ℕ) → InU (v c)

-- what a form asks of a placement
abbrev pub Satisfies : Placement → Form → Type 0
Satisfies v (State c s) = allowed s (v c) ≡ true
Satisfies v (Sum a b c) = v a +ℤ v b ≡ v c
Satisfies v (Gap a d b) = (v a +ℤ d) ≤ℤ v b
Satisfies v (Apart a d b e) = ((v a +ℤ pos d) ≤ℤ v b) ⊎ ((v b +ℤ pos e) ≤ℤ v a)

-- a set of premises, by its membership test
abbrev pub Premises : Type 0
Premises = ℕ → Bool

-- the premises that own a constraint: at most one
abbrev pub owned_by : Option ℕ → Premises
owned_by None p = false
owned_by (Some q) p = p == q

-- a constraint is in force under a set of premises that holds each of its owners
abbrev pub InForce : Premises → Constraint → Type 0
InForce s k = (p : ℕ) → owned_by k.owner p ≡ true → s p ≡ true

-- a placement meets some premises when it satisfies every unowned constraint and all that they own
abbrev pub Meets : Placement → Premises → List Constraint → Type 0
Meets v s [] = Unit {0}
Meets v s (k ∷ ks) = (InForce s k → Satisfies v k.form) × Meets v s ks
