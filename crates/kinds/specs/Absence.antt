-- Equality of what may be absent.
use Rattle.std.specs.Prelude.{◌≡◌, Bool, Some, None, Option, refl}
use Rattle.std.proofs.Common.{Decides, ap}
use Rattle.std.specs.Option.{option_eq}
use Rattle.std.proofs.lemmas.Option.{same_Some}
use Rattle.statements.proofs.Tests.{test_clash}

-- A test that decides whether two values are equal decides it for values that may be absent.
pub option_eq-decides : {A : Type 0} (E : A → A → Bool) → ((x y : A) → Decides (E x y) (x ≡ y)) → (o r : Option A) → Decides (option_eq E o r) (o ≡ r)
option_eq-decides E d (Some x) (Some y) = (λ h. ap Some ((d x y).0 h), λ h. (d x y).1 (same_Some x y h))
option_eq-decides E d (Some x) None = (λ h. test_clash h refl, λ h. cc)
option_eq-decides E d None (Some y) = (λ h. test_clash h refl, λ h. cc)
option_eq-decides E d None None = (λ h. refl, λ h. refl)
