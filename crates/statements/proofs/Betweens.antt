-- The least and the greatest of the numbers from lo to hi, and of a Between.
use Rattle.std.proofs.Common.{◌≡◌, ℤ, ◌≤ℤ◌, ◌<ℤ◌, Some, None, Option, sym, subst, arith}
use Rattle.std.specs.Bool.{then_some}
use Rattle.std.specs.Int.{int_max, int_min}
use Rattle.std.specs.Prelude.{int_le}
use Rattle.std.proofs.lemmas.Int.{ints, clamps, by_lt_z}
use Rattle.statements.specs.Numbers.{inside, Within, raised, lowered}
use Rattle.statements.specs.Search.{LeastFrom, GreatestTo}
use Rattle.statements.specs.Between.{between}
use Rattle.statements.proofs.Tests.{then_some_both, le_of, le_no_of, inside_made, inside_of, inside_below, inside_above}

module _ (lo hi n v : ℤ) where
  pub inside-least : v ≡ int_max n lo → v ≤ℤ hi → LeastFrom (inside lo hi) n (Some v)
  inside-least is h = (omega (arith, ints, clamps), inside_made lo hi v (omega (arith, ints, clamps)) h, λ m k l. inside_below lo hi m (omega (arith, ints, clamps)))

  pub inside_no_least : v ≡ int_max n lo → hi <ℤ v → LeastFrom (inside lo hi) n None
  inside_no_least is h m k = by_lt_z m lo (λ l. inside_below lo hi m l) (λ l. inside_above lo hi m (omega (arith, ints, clamps)))

  pub inside_greatest : v ≡ int_min n hi → lo ≤ℤ v → GreatestTo (inside lo hi) n (Some v)
  inside_greatest is h = (omega (arith, ints, clamps), inside_made lo hi v h (omega (arith, ints, clamps)), λ m k l. inside_above lo hi m (omega (arith, ints, clamps)))

  pub inside_no_greatest : v ≡ int_min n hi → v <ℤ lo → GreatestTo (inside lo hi) n None
  inside_no_greatest is h m k = by_lt_z hi m (λ l. inside_above lo hi m l) (λ l. inside_below lo hi m (omega (arith, ints, clamps)))

-- What the code answers: v, where it passes the other end.
module _ (lo hi n v end : ℤ) (o : Option ℤ) where
  pub inside_first : o ≡ then_some (int_le v end) v → v ≡ int_max n lo → end ≡ hi → LeastFrom (inside lo hi) n o
  inside_first e is same =
      subst (LeastFrom (inside lo hi) n) (sym e)
      (then_some_both (LeastFrom (inside lo hi) n) (int_le v end) v
      (λ t. let h = le_of v end t in inside-least lo hi n v is (omega (arith, ints)))
      (λ t. let h = le_no_of v end t in inside_no_least lo hi n v is (omega (arith, ints))))

  pub inside_last : o ≡ then_some (int_le end v) v → v ≡ int_min n hi → end ≡ lo → GreatestTo (inside lo hi) n o
  inside_last e is same =
      subst (GreatestTo (inside lo hi) n) (sym e)
      (then_some_both (GreatestTo (inside lo hi) n) (int_le end v) v
      (λ t. let h = le_of end v t in inside_greatest lo hi n v is (omega (arith, ints)))
      (λ t. let h = le_no_of end v t in inside_no_greatest lo hi n v is (omega (arith, ints))))

pub between_within : (lo hi : ℤ) → Within (between lo hi)
between_within lo hi n e = let p = inside_of (raised lo) (lowered hi) n e in (omega (arith, ints, clamps), omega (arith, ints, clamps))
