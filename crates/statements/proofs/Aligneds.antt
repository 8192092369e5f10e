-- The least and the greatest number of an Aligned.
use Rattle.std.proofs.Common.{◌≡◌, ◌^◌, true, false, eqb, ℤ, pos, ◌+ℤ◌, ◌-ℤ◌, ◌≤ℤ◌, ◌<ℤ◌, Some, None, Option, sym, subst, arith, pow_pos}
use Rattle.std.specs.Bool.{then_some}
use Rattle.std.specs.Prelude.{int_le}
use Rattle.std.proofs.lemmas.Int.{ints, clamps, by_lt_z}
use Rattle.std.proofs.lemmas.Bool.{and_from, and_parts, eq-eqb, eqb-true, false_from_ne_true}
use Rattle.std.specs.Cmp.{both_ways}
use Rattle.statements.specs.Numbers.{top, bottom, inside, InU, Within, raised, lowered}
use Rattle.statements.specs.Search.{LeastFrom, GreatestTo}
use Rattle.statements.specs.Aligned.{multiple, aligned, rest}
use Rattle.statements.specs.declared.residue.Residue.{Residue}
use Rattle.statements.proofs.Tests.{then_some_both, le_of, le_no_of, inside_made, inside_of}
use Rattle.statements.proofs.Multiples.{Multiple, multiple_of, multiple_made, multiple-gap, multiple_neg, rest_below, rest-multiple, rest_unique}

module _ (a : Residue) where
  pub aligned_of : (n : ℤ) → aligned a n ≡ true → InU n × Multiple (2 ^ a.k) (n -ℤ pos a.r)
  aligned_of n e =
      let u = inside bottom top n in
      let m = multiple (2 ^ a.k) (n -ℤ pos a.r) in
      (inside_of bottom top n (and_parts u m e).0, multiple_of (2 ^ a.k) (n -ℤ pos a.r) (and_parts u m e).1)

  pub aligned_made : (n : ℤ) → InU n → Multiple (2 ^ a.k) (n -ℤ pos a.r) → aligned a n ≡ true
  aligned_made n u m = and_from _ _ (inside_made bottom top n u.0 u.1) (multiple_made (2 ^ a.k) (n -ℤ pos a.r) m)

  pub aligned_within : Within (aligned a)
  aligned_within n e = (aligned_of n e).0

  -- A residue's numbers are those that leave its rest.
  pub aligned-rest : (n : ℤ) → aligned a n ≡ true → rest (2 ^ a.k) n ≡ a.r
  aligned-rest n e = rest_unique (2 ^ a.k) n a.r a.below (aligned_of n e).1

  pub rest-aligned : (n : ℤ) → InU n → rest (2 ^ a.k) n ≡ a.r → aligned a n ≡ true
  rest-aligned n u e =
      aligned_made n u (subst (λ x. Multiple (2 ^ a.k) (n -ℤ pos x)) e (rest-multiple (2 ^ a.k) n (pow_pos a.k)))

  -- The code's test: n less r leaves nothing.
  pub aligned_test : (n : ℤ) → InU n → eqb (rest (2 ^ a.k) (n -ℤ pos a.r)) 0 ≡ aligned a n
  aligned_test n u =
      let d = 2 ^ a.k in
      let z = n -ℤ pos a.r in
      let some = pow_pos a.k in
      both_ways (eqb (rest d z) 0) (aligned a n)
      (λ e. let none : rest d z ≡ 0 = eqb-true _ _ e in let same : (z -ℤ pos (rest d z)) ≡ z = omega (arith, ints) in
      aligned_made n u (subst (Multiple d) same (rest-multiple d z some)))
      (λ e. let m = (aligned_of n e).1 in let same : z ≡ (z -ℤ pos 0) = omega (arith, ints) in
      eq-eqb _ _ (rest_unique d z 0 some (subst (Multiple d) same m)))

  -- Upward: v is `from`, which is n raised, and what it lacks of the next number that leaves the rest.
  module _ (n from z x v : ℤ) (is : from ≡ raised n) (at : z ≡ (pos a.r -ℤ from)) (left : x ≡ pos (rest (2 ^ a.k) z)) (sum : v ≡ (from +ℤ x)) where
    up_multiple : Multiple (2 ^ a.k) (v -ℤ pos a.r)
    up_multiple =
        let d = 2 ^ a.k in
        let e : (pos 0 -ℤ (z -ℤ pos (rest d z))) ≡ (v -ℤ pos a.r) = omega (arith, ints) in
        subst (Multiple d) e (multiple_neg d _ (rest-multiple d z (pow_pos a.k)))

    passed_up : (m : ℤ) → n ≤ℤ m → m <ℤ v → aligned a m ≡ false
    passed_up m h l = false_from_ne_true (aligned a m) (λ e.
        let d = 2 ^ a.k in
        let p = aligned_of m e in
        let u = p.0 in
        let b = rest_below d z (pow_pos a.k) in
        let g = multiple-gap d (v -ℤ pos a.r) (m -ℤ pos a.r) (v -ℤ m) up_multiple p.1 (omega (arith, ints, clamps)) (omega (arith, ints)) in
        omega (arith, ints))

    pub aligned-least : v ≤ℤ top → LeastFrom (aligned a) n (Some v)
    aligned-least h = (omega (arith, ints, clamps), aligned_made v (omega (arith, ints, clamps), h) up_multiple, passed_up)

    pub aligned_no_least : top <ℤ v → LeastFrom (aligned a) n None
    aligned_no_least h m k =
        by_lt_z m v (λ l. passed_up m k l) (λ l. false_from_ne_true (aligned a m) (λ e. let u = aligned_within m e in omega (arith, ints)))

    -- What the code answers: v, kept where it is a number of U.
    pub aligned_first : (o : Option ℤ) → o ≡ then_some (int_le v top) v → LeastFrom (aligned a) n o
    aligned_first o e =
        subst (LeastFrom (aligned a) n) (sym e)
        (then_some_both (LeastFrom (aligned a) n) (int_le v top) v (λ t. aligned-least (le_of v top t)) (λ t. aligned_no_least (le_no_of v top t)))

  -- Downward: v is `to`, which is n lowered, less what it has beyond the last number that leaves the rest.
  module _ (n to z x v : ℤ) (is : to ≡ lowered n) (at : z ≡ (to -ℤ pos a.r)) (left : x ≡ pos (rest (2 ^ a.k) z)) (less : v ≡ (to -ℤ x)) where
    down-multiple : Multiple (2 ^ a.k) (v -ℤ pos a.r)
    down-multiple =
        let d = 2 ^ a.k in
        let e : (z -ℤ pos (rest d z)) ≡ (v -ℤ pos a.r) = omega (arith, ints) in
        subst (Multiple d) e (rest-multiple d z (pow_pos a.k))

    passed_down : (m : ℤ) → m ≤ℤ n → v <ℤ m → aligned a m ≡ false
    passed_down m h l = false_from_ne_true (aligned a m) (λ e.
        let d = 2 ^ a.k in
        let p = aligned_of m e in
        let u = p.0 in
        let b = rest_below d z (pow_pos a.k) in
        let g = multiple-gap d (m -ℤ pos a.r) (v -ℤ pos a.r) (m -ℤ v) p.1 down-multiple (omega (arith, ints, clamps)) (omega (arith, ints)) in
        omega (arith, ints))

    pub aligned_greatest : bottom ≤ℤ v → GreatestTo (aligned a) n (Some v)
    aligned_greatest h = (omega (arith, ints, clamps), aligned_made v (h, omega (arith, ints, clamps)) down-multiple, passed_down)

    pub aligned_no_greatest : v <ℤ bottom → GreatestTo (aligned a) n None
    aligned_no_greatest h m k =
        by_lt_z v m (λ l. passed_down m k l) (λ l. false_from_ne_true (aligned a m) (λ e. let u = aligned_within m e in omega (arith, ints)))

    -- What the code answers: v, kept where it is a number of U.
    pub aligned_last : (o : Option ℤ) → o ≡ then_some (int_le bottom v) v → GreatestTo (aligned a) n o
    aligned_last o e =
        subst (GreatestTo (aligned a) n) (sym e)
        (then_some_both (GreatestTo (aligned a) n) (int_le bottom v) v (λ t. aligned_greatest (le_of bottom v t)) (λ t. aligned_no_greatest (le_no_of bottom v t)))
