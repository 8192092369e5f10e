-- What two tests have in common, found by asking each in turn.
use Rattle.std.proofs.Common.{◌≡◌, ℕ, ◌<◌, Bool, true, false, ◌&&◌, ℤ, pos, negsuc, ◌+ℤ◌, ◌-ℤ◌, ◌≤ℤ◌, ◌<ℤ◌, Some, None, Option, sym, subst, ◌∙◌, arith}
use Rattle.std.proofs.lemmas.Int.{ints, by_lt_z}
use Rattle.std.proofs.lemmas.Bool.{and_from, and_left, and_right}
use Rattle.statements.specs.Numbers.{top, bottom}
use Rattle.statements.specs.Search.{LeastFrom, GreatestTo, count}

-- ---- how far a number is from the end of U

-- The numbers of U from n up, and one past them.
abbrev pub room_above : ℤ → ℕ
room_above n = count ((top +ℤ pos 1) -ℤ n)

-- The numbers of U from n down, and one past them.
abbrev pub room_below : ℤ → ℕ
room_below n = count (n -ℤ (bottom -ℤ pos 1))

count_less : (x y : ℤ) → pos 0 ≤ℤ x → x <ℤ y → count x < count y
count_less (pos a) (pos b) k h = omega (arith, ints)
count_less (pos a) (negsuc b) k h = absurd h.lt
count_less (negsuc a) y k h = absurd k.le

pub room_above_falls : (n m : ℤ) → n <ℤ m → m ≤ℤ top → room_above m < room_above n
room_above_falls n m h k = count_less ((top +ℤ pos 1) -ℤ m) ((top +ℤ pos 1) -ℤ n) (omega (arith, ints)) (omega (arith, ints))

pub room_below_falls : (n m : ℤ) → m <ℤ n → bottom ≤ℤ m → room_below m < room_below n
room_below_falls n m h k = count_less (m -ℤ (bottom -ℤ pos 1)) (n -ℤ (bottom -ℤ pos 1)) (omega (arith, ints)) (omega (arith, ints))

-- ---- one turn on: v and w are what the tests have found, v' and w' the same as the code hands them on

-- The two tests have no number in common from n up to `from`.
abbrev pub PassedUp : (ℤ → Bool) → (ℤ → Bool) → ℤ → ℤ → Type 0
PassedUp a b n from = (n ≤ℤ from) × ((m : ℤ) → n ≤ℤ m → m <ℤ from → (a m && b m) ≡ false)

-- The two tests have no number in common from n down to `to`.
abbrev pub PassedDown : (ℤ → Bool) → (ℤ → Bool) → ℤ → ℤ → Type 0
PassedDown a b n to = (to ≤ℤ n) × ((m : ℤ) → m ≤ℤ n → to <ℤ m → (a m && b m) ≡ false)

module _ (a b : ℤ → Bool) (n from v : ℤ) where
  pub next_passed : PassedUp a b n from → LeastFrom a from (Some v) → (m : ℤ) → n ≤ℤ m → m <ℤ v → (a m && b m) ≡ false
  next_passed past p m h k = by_lt_z m from (λ j. past.1 m h j) (λ j. and_left (a m) (b m) (p.2 m j k))

  pub last_passed : PassedDown a b n from → GreatestTo a from (Some v) → (m : ℤ) → m ≤ℤ n → v <ℤ m → (a m && b m) ≡ false
  last_passed past p m h k = by_lt_z from m (λ j. past.1 m h j) (λ j. and_left (a m) (b m) (p.2 m j k))

  module _ (v' w w' : ℤ) (v-is : v' ≡ v) (w-is : w' ≡ w) where
    pub next_on : PassedUp a b n from → LeastFrom a from (Some v) → LeastFrom b v' (Some w) → PassedUp a b n w'
    next_on past p q = (
      let s = past.0 in let t = p.0 in let u = q.0 in omega (arith, ints),
      λ m h k. by_lt_z m v (λ j. next_passed past p m h j) (λ j. and_right (a m) (b m) (q.2 m (omega (arith, ints)) (omega (arith, ints)))),
    )

    pub last_on : PassedDown a b n from → GreatestTo a from (Some v) → GreatestTo b v' (Some w) → PassedDown a b n w'
    last_on past p q = (
      let s = past.0 in let t = p.0 in let u = q.0 in omega (arith, ints),
      λ m h k. by_lt_z v m (λ j. last_passed past p m h j) (λ j. and_right (a m) (b m) (q.2 m (omega (arith, ints)) (omega (arith, ints)))),
    )

  -- What the code answers at n', the same as n: none where the second test has no more, and v' where it agrees.
  module _ (n' v' : ℤ) (n-is : n' ≡ n) (v-is : v' ≡ v) where
    pub next_none : (o : Option ℤ) → PassedUp a b n from → LeastFrom a from (Some v) → LeastFrom b v' None → o ≡ None → LeastFrom (λ m. a m && b m) n' o
    next_none o past p q e =
        subst (LeastFrom (λ m. a m && b m) n') (sym e)
        (λ m h. by_lt_z m v (λ j. next_passed past p m (omega (arith, ints)) j) (λ j. and_right (a m) (b m) (q m (omega (arith, ints)))))

    pub last_none : (o : Option ℤ) → PassedDown a b n from → GreatestTo a from (Some v) → GreatestTo b v' None → o ≡ None → GreatestTo (λ m. a m && b m) n' o
    last_none o past p q e =
        subst (GreatestTo (λ m. a m && b m) n') (sym e)
        (λ m h. by_lt_z v m (λ j. last_passed past p m (omega (arith, ints)) j) (λ j. and_right (a m) (b m) (q m (omega (arith, ints)))))

    pub next_agree : (w : ℤ) → PassedUp a b n from → LeastFrom a from (Some v) → LeastFrom b v' (Some w) → w ≡ v → LeastFrom (λ m. a m && b m) n' (Some v')
    next_agree w past p q e = (
      let s = past.0 in let t = p.0 in omega (arith, ints),
      and_from (a v') (b v') (subst (λ x. a x ≡ true) (sym v-is) p.1) (subst (λ x. b x ≡ true) (e ∙ sym v-is) q.1),
      λ m h k. next_passed past p m (omega (arith, ints)) (omega (arith, ints)),
    )

    pub last_agree : (w : ℤ) → PassedDown a b n from → GreatestTo a from (Some v) → GreatestTo b v' (Some w) → w ≡ v → GreatestTo (λ m. a m && b m) n' (Some v')
    last_agree w past p q e = (
      let s = past.0 in let t = p.0 in omega (arith, ints),
      and_from (a v') (b v') (subst (λ x. a x ≡ true) (sym v-is) p.1) (subst (λ x. b x ≡ true) (e ∙ sym v-is) q.1),
      λ m h k. last_passed past p m (omega (arith, ints)) (omega (arith, ints)),
    )
