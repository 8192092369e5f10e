-- Tests as facts: yes and no, and the order of whole numbers.
use Rattle.std.proofs.Common.{◌≡◌, Bool, true, false, T, Some, None, Option, ℤ, ◌≤ℤ◌, ◌<ℤ◌, sym, refl, ◌∙◌, subst, arith}
use Rattle.std.proofs.lemmas.Float.{T_from_true}
use lib.Signed.{le_z}
use Rattle.std.proofs.lemmas.Bool.{and_parts}
use Rattle.std.specs.Bool.{then_some}
use Rattle.std.proofs.lemmas.Int.{ints, clamps}
use Rattle.statements.specs.Numbers.{top, bottom, inside, raised, lowered}

-- ---- yes and no

-- No test is both yes and no.
pub test_clash : {X : Type 0} {b : Bool} → b ≡ true → b ≡ false → X
test_clash p q = absurd (subst T (sym p ∙ q) tt)

pub test_cases : {P : Type 0} (b : Bool) → (b ≡ true → P) → (b ≡ false → P) → P
test_cases true p q = p refl
test_cases false p q = q refl

-- What holds of Some x where the test is yes, and of None where it is no, holds of what `then_some` gives.
pub then_some_both : {A : Type 0} (P : Option A → Type 0) (b : Bool) (x : A) → (b ≡ true → P (Some x)) → (b ≡ false → P None) → P (then_some b x)
then_some_both P true x p q = p refl
then_some_both P false x p q = q refl

-- ---- order

pub le_made : (a b : ℤ) → a ≤ℤ b → le_z a b ≡ true
le_made a b h = grind (arith, ints)

pub le_of : (a b : ℤ) → le_z a b ≡ true → a ≤ℤ b
le_of a b e = record { le = T_from_true (le_z a b) e }

pub le_no : (a b : ℤ) → b <ℤ a → le_z a b ≡ false
le_no a b h = grind (arith, ints)

pub le_no_of : (a b : ℤ) → le_z a b ≡ false → b <ℤ a
le_no_of a b h = grind (arith, ints)

pub inside_made : (lo hi n : ℤ) → lo ≤ℤ n → n ≤ℤ hi → inside lo hi n ≡ true
inside_made lo hi n p q = grind (arith, ints)

pub inside_of : (lo hi n : ℤ) → inside lo hi n ≡ true → (lo ≤ℤ n) × (n ≤ℤ hi)
inside_of lo hi n e = let p = and_parts (le_z lo n) (le_z n hi) e in (le_of lo n p.0, le_of n hi p.1)

pub inside_below : (lo hi n : ℤ) → n <ℤ lo → inside lo hi n ≡ false
inside_below lo hi n h = grind (arith, ints)

pub inside_above : (lo hi n : ℤ) → hi <ℤ n → inside lo hi n ≡ false
inside_above lo hi n h = grind (arith, ints)

-- ---- clamping

pub raised-low : (lo : ℤ) → bottom ≤ℤ raised lo
raised-low lo = omega (arith, ints, clamps)

pub lowered-high : (hi : ℤ) → lowered hi ≤ℤ top
lowered-high hi = omega (arith, ints, clamps)
