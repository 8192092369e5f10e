-- The laws of least, greatest, lowest and highest.
use Rattle.std.proofs.Common.{◌≡◌, ℕ, zero, suc, Bool, true, false, cond, ℤ, pos, negsuc, ◌+ℤ◌, ◌-ℤ◌, ◌≤ℤ◌, ◌<ℤ◌, Some, None, Option, sym, refl, ap, subst, arith}
use Rattle.std.specs.Option.{is_none, unwrap_or}
use Rattle.std.proofs.lemmas.Int.{ints, clamps, by_lt_z}
use Rattle.statements.specs.Numbers.{top, bottom, InU, Within, raised, lowered}
use Rattle.statements.specs.Search.{LeastFrom, GreatestTo, seek_up, seek_down, count, least_from, greatest_to, lowest, highest, allows_none}
use Rattle.std.proofs.lemmas.Bool.{false_from_ne_true}
use Rattle.statements.proofs.Tests.{test_clash, test_cases}

count_le : (z : ℤ) → z ≤ℤ pos (count z)
count_le (pos n) = omega (arith, ints)
count_le (negsuc n) = omega (arith, ints)

-- A number outside U is not allowed.
module _ (a : ℤ → Bool) (w : Within a) (m : ℤ) where
  below_no : m <ℤ bottom → a m ≡ false
  below_no h = false_from_ne_true (a m) (λ e. let u = w m e in omega (arith, ints))

  above_no : top <ℤ m → a m ≡ false
  above_no h = false_from_ne_true (a m) (λ e. let u = w m e in omega (arith, ints))

-- ---- least and greatest are found by the search

least_later : (a : ℤ → Bool) (n : ℤ) (o : Option ℤ) → a n ≡ false → LeastFrom a (n +ℤ pos 1) o → LeastFrom a n o
least_later a n (Some v) e p =
    (let h = p.0 in omega (arith, ints), p.1, λ m h k. by_lt_z n m (λ l. p.2 m (omega (arith, ints)) k) (λ l. let same : n ≡ m = omega (arith, ints) in subst (λ x. a x ≡ false) same e))
least_later a n None e p =
    λ m h. by_lt_z n m (λ l. p m (omega (arith, ints))) (λ l. let same : n ≡ m = omega (arith, ints) in subst (λ x. a x ≡ false) same e)

seek_up-step : (a : ℤ → Bool) (n : ℤ) (o : Option ℤ) (b : Bool) → a n ≡ b → LeastFrom a (n +ℤ pos 1) o → LeastFrom a n (cond b (Some n) o)
seek_up-step a n o true e p = (omega (arith, ints), e, λ m h l. absurd (omega (arith, ints)))
seek_up-step a n o false e p = least_later a n o e p

seek_up-least : (a : ℤ → Bool) (k : ℕ) (n : ℤ) → ((m : ℤ) → (n +ℤ pos k) ≤ℤ m → a m ≡ false) → LeastFrom a n (seek_up a k n)
unfolding seek_up
seek_up-least a zero n past = λ m h. past m (omega (arith, ints))
seek_up-least a (suc k) n past = seek_up-step a n (seek_up a k (n +ℤ pos 1)) (a n) refl (seek_up-least a k (n +ℤ pos 1) (λ m h. past m (omega (arith, ints))))

greatest_later : (a : ℤ → Bool) (n : ℤ) (o : Option ℤ) → a n ≡ false → GreatestTo a (n -ℤ pos 1) o → GreatestTo a n o
greatest_later a n (Some v) e p =
    (let h = p.0 in omega (arith, ints), p.1, λ m h k. by_lt_z m n (λ l. p.2 m (omega (arith, ints)) k) (λ l. let same : n ≡ m = omega (arith, ints) in subst (λ x. a x ≡ false) same e))
greatest_later a n None e p =
    λ m h. by_lt_z m n (λ l. p m (omega (arith, ints))) (λ l. let same : n ≡ m = omega (arith, ints) in subst (λ x. a x ≡ false) same e)

seek_down-step : (a : ℤ → Bool) (n : ℤ) (o : Option ℤ) (b : Bool) → a n ≡ b → GreatestTo a (n -ℤ pos 1) o → GreatestTo a n (cond b (Some n) o)
seek_down-step a n o true e p = (omega (arith, ints), e, λ m h l. absurd (omega (arith, ints)))
seek_down-step a n o false e p = greatest_later a n o e p

seek_down_greatest : (a : ℤ → Bool) (k : ℕ) (n : ℤ) → ((m : ℤ) → m ≤ℤ (n -ℤ pos k) → a m ≡ false) → GreatestTo a n (seek_down a k n)
unfolding seek_down
seek_down_greatest a zero n past = λ m h. past m (omega (arith, ints))
seek_down_greatest a (suc k) n past = seek_down-step a n (seek_down a k (n -ℤ pos 1)) (a n) refl (seek_down_greatest a k (n -ℤ pos 1) (λ m h. past m (omega (arith, ints))))

-- ---- there is one least and one greatest

pub least_unique : (a : ℤ → Bool) (n : ℤ) (o p : Option ℤ) → LeastFrom a n o → LeastFrom a n p → o ≡ p
least_unique a n (Some v) (Some w) h k =
    by_lt_z v w
    (λ l. test_clash h.1 (k.2 v h.0 l))
    (λ l. by_lt_z w v (λ l'. test_clash k.1 (h.2 w k.0 l')) (λ l'. ap Some (omega (arith, ints))))
least_unique a n (Some v) None h k = test_clash h.1 (k v h.0)
least_unique a n None (Some w) h k = test_clash k.1 (h w k.0)
least_unique a n None None h k = refl

pub greatest_unique : (a : ℤ → Bool) (n : ℤ) (o p : Option ℤ) → GreatestTo a n o → GreatestTo a n p → o ≡ p
greatest_unique a n (Some v) (Some w) h k =
    by_lt_z w v
    (λ l. test_clash h.1 (k.2 v h.0 l))
    (λ l. by_lt_z v w (λ l'. test_clash k.1 (h.2 w k.0 l')) (λ l'. ap Some (omega (arith, ints))))
greatest_unique a n (Some v) None h k = test_clash h.1 (k v h.0)
greatest_unique a n None (Some w) h k = test_clash k.1 (h w k.0)
greatest_unique a n None None h k = refl

-- ---- the laws, for a test that allows numbers of U only

module _ (a : ℤ → Bool) (w : Within a) where
  least-raised : (n : ℤ) (o : Option ℤ) → LeastFrom a (raised n) o → LeastFrom a n o
  least-raised n (Some v) p =
      let h = p.0 in
      (omega (arith, ints, clamps), p.1, λ m k l. by_lt_z m bottom (λ b. below_no a w m b) (λ b. p.2 m (omega (arith, ints, clamps)) l))
  least-raised n None p = λ m k. by_lt_z m bottom (λ b. below_no a w m b) (λ b. p m (omega (arith, ints, clamps)))

  pub least_from-least : (n : ℤ) → LeastFrom a n (least_from a n)
  unfolding least_from
  least_from-least n =
      let z = (top +ℤ pos 1) -ℤ raised n in
      least-raised n (seek_up a (count z) (raised n)) (seek_up-least a (count z) (raised n) (λ m h. let c = count_le z in above_no a w m (omega (arith, ints))))

  greatest_lowered : (n : ℤ) (o : Option ℤ) → GreatestTo a (lowered n) o → GreatestTo a n o
  greatest_lowered n (Some v) p =
      let h = p.0 in
      (omega (arith, ints, clamps), p.1, λ m k l. by_lt_z top m (λ b. above_no a w m b) (λ b. p.2 m (omega (arith, ints, clamps)) l))
  greatest_lowered n None p = λ m k. by_lt_z top m (λ b. above_no a w m b) (λ b. p m (omega (arith, ints, clamps)))

  pub greatest_to_greatest : (n : ℤ) → GreatestTo a n (greatest_to a n)
  unfolding greatest_to
  greatest_to_greatest n =
      let z = lowered n -ℤ (bottom -ℤ pos 1) in
      greatest_lowered n (seek_down a (count z) (lowered n)) (seek_down_greatest a (count z) (lowered n) (λ m h. let c = count_le z in below_no a w m (omega (arith, ints))))

  -- What is least is what the definition names, and so for the greatest.
  pub least_from_is : (n : ℤ) (o : Option ℤ) → LeastFrom a n o → o ≡ least_from a n
  least_from_is n o h = least_unique a n o (least_from a n) h (least_from-least n)

  pub greatest_to_is : (n : ℤ) (o : Option ℤ) → GreatestTo a n o → o ≡ greatest_to a n
  greatest_to_is n o h = greatest_unique a n o (greatest_to a n) h (greatest_to_greatest n)

  -- What is allowed from n up is not below the least, whatever stands for an is_none one.
  pub least_from_le : (d n v : ℤ) → n ≤ℤ v → a v ≡ true → unwrap_or (least_from a n) d ≤ℤ v
  least_from_le d n v h e = go (least_from a n) (least_from-least n)
    where
      go : (o : Option ℤ) → LeastFrom a n o → unwrap_or o d ≤ℤ v
      go (Some x) p = by_lt_z v x (λ l. test_clash e (p.2 v h l)) (λ l. l)
      go None p = test_clash e (p v h)

  pub greatest_to_ge : (d n v : ℤ) → v ≤ℤ n → a v ≡ true → v ≤ℤ unwrap_or (greatest_to a n) d
  greatest_to_ge d n v h e = go (greatest_to a n) (greatest_to_greatest n)
    where
      go : (o : Option ℤ) → GreatestTo a n o → v ≤ℤ unwrap_or o d
      go (Some x) p = by_lt_z x v (λ l. test_clash e (p.2 v h l)) (λ l. l)
      go None p = test_clash e (p v h)

  -- The least from n up is allowed, where there is one.
  pub least_from-allowed : (d n : ℤ) → unwrap_or (least_from a n) d <ℤ d → a (unwrap_or (least_from a n) d) ≡ true
  least_from-allowed d n = go (least_from a n) (least_from-least n)
    where
      go : (o : Option ℤ) → LeastFrom a n o → unwrap_or o d <ℤ d → a (unwrap_or o d) ≡ true
      go (Some x) p h = p.1
      go None p h = absurd (omega (arith, ints))

  pub greatest_to-allowed : (d n : ℤ) → d <ℤ unwrap_or (greatest_to a n) d → a (unwrap_or (greatest_to a n) d) ≡ true
  greatest_to-allowed d n = go (greatest_to a n) (greatest_to_greatest n)
    where
      go : (o : Option ℤ) → GreatestTo a n o → d <ℤ unwrap_or o d → a (unwrap_or o d) ≡ true
      go (Some x) p h = p.1
      go None p h = absurd (omega (arith, ints))

  -- The least from n up is not below n.
  pub least_from_ge : (d n : ℤ) → n ≤ℤ d → n ≤ℤ unwrap_or (least_from a n) d
  least_from_ge d n h = go (least_from a n) (least_from-least n)
    where
      go : (o : Option ℤ) → LeastFrom a n o → n ≤ℤ unwrap_or o d
      go (Some x) p = p.0
      go None p = h

  pub greatest_to_le : (d n : ℤ) → d ≤ℤ n → unwrap_or (greatest_to a n) d ≤ℤ n
  greatest_to_le d n h = go (greatest_to a n) (greatest_to_greatest n)
    where
      go : (o : Option ℤ) → GreatestTo a n o → unwrap_or o d ≤ℤ n
      go (Some x) p = p.0
      go None p = h

  -- From a higher number up the least is no lower.
  pub least_from_mono : (d n m : ℤ) → top ≤ℤ d → n ≤ℤ m → unwrap_or (least_from a n) d ≤ℤ unwrap_or (least_from a m) d
  least_from_mono d n m t h = go (least_from a m) (least_from-least m) (least_from a n) (least_from-least n)
    where
      go : (o : Option ℤ) → LeastFrom a m o → (p : Option ℤ) → LeastFrom a n p → unwrap_or p d ≤ℤ unwrap_or o d
      go (Some x) k (Some y) l = by_lt_z x y (λ j. let g = k.0 in test_clash k.1 (l.2 x (omega (arith, ints)) j)) (λ j. j)
      go (Some x) k None l = let g = k.0 in test_clash k.1 (l x (omega (arith, ints)))
      go None k (Some y) l = let u = w y l.1 in omega (arith, ints)
      go None k None l = omega (arith, ints)

  pub greatest_to_mono : (d n m : ℤ) → d ≤ℤ bottom → n ≤ℤ m → unwrap_or (greatest_to a n) d ≤ℤ unwrap_or (greatest_to a m) d
  greatest_to_mono d n m t h = go (greatest_to a n) (greatest_to_greatest n) (greatest_to a m) (greatest_to_greatest m)
    where
      go : (o : Option ℤ) → GreatestTo a n o → (p : Option ℤ) → GreatestTo a m p → unwrap_or o d ≤ℤ unwrap_or p d
      go (Some x) k (Some y) l = by_lt_z y x (λ j. let g = k.0 in test_clash k.1 (l.2 x (omega (arith, ints)) j)) (λ j. j)
      go (Some x) k None l = let g = k.0 in test_clash k.1 (l x (omega (arith, ints)))
      go None k (Some y) l = let u = w y l.1 in omega (arith, ints)
      go None k None l = omega (arith, ints)

  -- ---- lowest and highest

  pub lowest_is : (o : Option ℤ) → LeastFrom a bottom o → unwrap_or o top ≡ lowest a
  unfolding lowest
  lowest_is o h = ap (λ o. unwrap_or o top) (least_from_is bottom o h)

  pub highest_is : (o : Option ℤ) → GreatestTo a top o → unwrap_or o bottom ≡ highest a
  unfolding highest
  highest_is o h = ap (λ o. unwrap_or o bottom) (greatest_to_is top o h)

  pub lowest_le : (n : ℤ) → a n ≡ true → lowest a ≤ℤ n
  unfolding lowest
  lowest_le n e = least_from_le top bottom n (w n e).0 e

  pub highest_ge : (n : ℤ) → a n ≡ true → n ≤ℤ highest a
  unfolding highest
  highest_ge n e = greatest_to_ge bottom top n (w n e).1 e

  pub lowest_in : InU (lowest a)
  unfolding lowest
  lowest_in = go (least_from a bottom) (least_from-least bottom)
    where
      go : (o : Option ℤ) → LeastFrom a bottom o → InU (unwrap_or o top)
      go (Some x) p = w x p.1
      go None p = (omega (arith, ints), omega (arith, ints))

  pub highest_in : InU (highest a)
  unfolding highest
  highest_in = go (greatest_to a top) (greatest_to_greatest top)
    where
      go : (o : Option ℤ) → GreatestTo a top o → InU (unwrap_or o bottom)
      go (Some x) p = w x p.1
      go None p = (omega (arith, ints), omega (arith, ints))

  -- What allows a number allows its lowest and its highest.
  pub lowest-allowed : (n : ℤ) → a n ≡ true → a (lowest a) ≡ true
  unfolding lowest
  lowest-allowed n e = go (least_from a bottom) (least_from-least bottom)
    where
      go : (o : Option ℤ) → LeastFrom a bottom o → a (unwrap_or o top) ≡ true
      go (Some x) p = p.1
      go None p = test_clash e (p n (w n e).0)

  pub highest-allowed : (n : ℤ) → a n ≡ true → a (highest a) ≡ true
  unfolding highest
  highest-allowed n e = go (greatest_to a top) (greatest_to_greatest top)
    where
      go : (o : Option ℤ) → GreatestTo a top o → a (unwrap_or o bottom) ≡ true
      go (Some x) p = p.1
      go None p = test_clash e (p n (w n e).1)

  -- The lowest and highest of what allows no number are M and -M.
  pub lowest_none : ((n : ℤ) → a n ≡ false) → lowest a ≡ top
  lowest_none h = sym (lowest_is None (λ n k. h n))

  pub highest_none : ((n : ℤ) → a n ≡ false) → highest a ≡ bottom
  highest_none h = sym (highest_is None (λ n k. h n))

  -- ---- allows none

  pub allows_none_is : (o : Option ℤ) → LeastFrom a bottom o → is_none o ≡ allows_none a
  unfolding allows_none
  allows_none_is o h = ap is_none (least_from_is bottom o h)

  pub allows_none_no : (n : ℤ) → a n ≡ true → allows_none a ≡ false
  unfolding allows_none
  allows_none_no n e = go (least_from a bottom) (least_from-least bottom)
    where
      go : (o : Option ℤ) → LeastFrom a bottom o → is_none o ≡ false
      go (Some x) p = refl
      go None p = test_clash e (p n (w n e).0)

  pub allows_none_of : allows_none a ≡ true → (n : ℤ) → a n ≡ false
  allows_none_of h n = false_from_ne_true (a n) (λ e. test_clash h (allows_none_no n e))

  -- What does not allow none allows its lowest and its highest.
  pub lowest-some : allows_none a ≡ false → a (lowest a) ≡ true
  unfolding allows_none lowest
  lowest-some = go (least_from a bottom) (least_from-least bottom)
    where
      go : (o : Option ℤ) → LeastFrom a bottom o → is_none o ≡ false → a (unwrap_or o top) ≡ true
      go (Some x) p h = p.1
      go None p h = test_clash refl h

  pub highest-some : allows_none a ≡ false → a (highest a) ≡ true
  highest-some h = highest-allowed (lowest a) (lowest-some h)

-- What allows no more has a lowest that is no lower and a highest that is no higher.
module _ (a b : ℤ → Bool) (w : Within a) (v : Within b) (less : (n : ℤ) → a n ≡ true → b n ≡ true) where
  pub lowest_mono : lowest b ≤ℤ lowest a
  lowest_mono = test_cases (allows_none a)
      (λ e. subst (λ z. lowest b ≤ℤ z) (sym (lowest_none a w (allows_none_of a w e))) (lowest_in b v).1)
      (λ e. lowest_le b v (lowest a) (less (lowest a) (lowest-some a w e)))

  pub highest_mono : highest a ≤ℤ highest b
  highest_mono = test_cases (allows_none a)
      (λ e. subst (λ z. z ≤ℤ highest b) (sym (highest_none a w (allows_none_of a w e))) (highest_in b v).0)
      (λ e. highest_ge b v (highest a) (less (highest a) (highest-some a w e)))

  pub allows_none_mono : allows_none b ≡ true → allows_none a ≡ true
  allows_none_mono e = test_cases (allows_none a) (λ h. h)
      (λ h. test_clash e (allows_none_no b v (lowest a) (less (lowest a) (lowest-some a w h))))
