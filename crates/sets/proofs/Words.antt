-- What the operations on a word of w bits do to its ones.
use Rattle.std.proofs.Common.{◌≡◌, ℕ, ◌-◌, ◌*◌, ◌/◌, ◌%◌, ◌^◌, ◌<◌, ◌≤◌, Bool, true, false, not, ◌&&◌, ◌||◌, eqb, Decides, MatchBool, Some, None, Option, IfSome, IfNone, sym, refl, ap, ◌∙◌, ⊎_elim, pow-suc, arith}
use mathlib.Core.Bool.{or_comm, and_comm}
use lib.Bits.{bit_and, bit_or}
use lib.Count.{count_trailing_zeros}
use Rattle.std.specs.Bool.{then_some}
use Rattle.std.proofs.lemmas.Nat.{one_shl, and_mask, or_lt, pow_below}
use Rattle.std.proofs.lemmas.Bool.{both_ways, cases_lt, eq-eqb, eqb-true, eqb-false, or_left}
use Rattle.std.proofs.lemmas.Bool.Decides.{same_from_decides, Decides-below_and}
use Rattle.sets.specs.Members.{Nobody, Same, Within, inside, Least, Greatest}
use Rattle.sets.specs.Bits.{bits_of}
use Rattle.sets.proofs.Digits.{bits_and, bits_or, bits_not, bits_one, zero_none, bits_above, bits_same, lowest_one, highest_one}

-- `a | 1 << k` has a one at k as well.
pub insert_bits : (w a k : ℕ) → k < w → (j : ℕ) → bits_of (bit_or a ((1 * 2 ^ k) % 2 ^ w)) j ≡ (eqb j k || bits_of a j)
insert_bits w a k l j =
    ap (λ x. bits_of (bit_or a x) j) (one_shl k w l) ∙ bits_or a (2 ^ k) j ∙ ap (λ b. bits_of a j || b) (bits_one k j) ∙ or_comm (bits_of a j) (eqb j k)

-- `a & !b` has the ones of a that b has not.
pub without_bits : (w a b : ℕ) → a < 2 ^ w → b < 2 ^ w → (j : ℕ) → bits_of (bit_and a (2 ^ w - 1 - b)) j ≡ (not (bits_of b j) && bits_of a j)
without_bits w a b l m j =
    bits_and a (2 ^ w - 1 - b) j
    ∙ ⊎_elim
    (λ q. ap (λ x. bits_of a j && x) (bits_not w b j m q) ∙ and_comm (bits_of a j) (not (bits_of b j)))
    (λ q. rw (bits_above w a j l q, bits_above w b j m q))
    (cases_lt j w)

-- `a & !(1 << k)` has the ones of a but the one at k.
pub remove_bits : (w a k : ℕ) → a < 2 ^ w → k < w → (j : ℕ) → bits_of (bit_and a (2 ^ w - 1 - (1 * 2 ^ k) % 2 ^ w)) j ≡ (not (eqb j k) && bits_of a j)
remove_bits w a k l q j =
    ap (λ x. bits_of (bit_and a (2 ^ w - 1 - x)) j) (one_shl k w q)
    ∙ without_bits w a (2 ^ k) l (pow_below k w q) j
    ∙ ap (λ x. not x && bits_of a j) (bits_one k j)

-- `(a >> n) & 1 == 1` tests for a one at n.
pub test_bits : (a n : ℕ) → eqb (bit_and (a / 2 ^ n) 1) 1 ≡ bits_of a n
unfolding bits_of
test_bits a n = ap (λ x. eqb x 1) (and_mask (a / 2 ^ n) 1)

-- `a == 0` tells a word without a one from a word with one.
pub none_or_some : (w a : ℕ) → a < 2 ^ w → (b : Bool) → eqb a 0 ≡ b → MatchBool b (Nobody (bits_of a)) ((k : ℕ) × bits_of a k ≡ true)
none_or_some w a l true e = zero_none a (eqb-true a 0 e)
none_or_some w a l false e = let ne = eqb-false a 0 e in (count_trailing_zeros w a, (lowest_one w a (omega (arith, ne)) l).there)

or_held : (a b : Bool) → (a ≡ true → b ≡ true) → (a || b) ≡ b
or_held true b h = sym (h refl)
or_held false b h = refl

-- `a | b == b` decides whether b has each one of a.
pub within_decides : (w a b : ℕ) → a < 2 ^ w → b < 2 ^ w → Decides (eqb (bit_or a b) b) (Within (bits_of a) (bits_of b))
within_decides w a b l m = (
  (λ e n h. ap (λ x. bits_of x n) (sym (eqb-true (bit_or a b) b e)) ∙ bits_or a b n ∙ or_left (bits_of a n) (bits_of b n) h),
  λ h. eq-eqb (bit_or a b) b (bits_same w (bit_or a b) b (or_lt w a b l m) m (λ n. bits_or a b n ∙ or_held (bits_of a n) (bits_of b n) (h n))),
)

either : (a b : Bool) → Decides (not a || b) (a ≡ true → b ≡ true)
either true b = ((λ e _. e), λ h. h refl)
either false b = ((λ e q. absurd (both_ways false refl q)), λ h. refl)

-- That test is the one which goes through the places.
pub within_test : (w a b : ℕ) → a < 2 ^ w → b < 2 ^ w → eqb (bit_or a b) b ≡ inside (bits_of a) (bits_of b) w
unfolding inside
within_test w a b l m =
    let known = Decides-below_and (λ n. not (bits_of a n) || bits_of b n) (λ n. bits_of a n ≡ true → bits_of b n ≡ true) (inside (bits_of a) (bits_of b)) (λ n. either (bits_of a n) (bits_of b n)) refl (λ _. refl) w in
    let above : (n : ℕ) → w ≤ n → bits_of a n ≡ true → bits_of b n ≡ true = λ n q h. absurd (both_ways (bits_of a n) (bits_above w a n l q) h) in
    same_from_decides (eqb (bit_or a b) b) (inside (bits_of a) (bits_of b) w) (within_decides w a b l m)
    ((λ e n. ⊎_elim (known.0 e n) (above n) (cases_lt n w)), λ h. known.1 (λ n _. h n))

-- `a == b` decides whether both have the same ones.
pub same_decides : (w a b : ℕ) → a < 2 ^ w → b < 2 ^ w → Decides (eqb a b) (Same (bits_of a) (bits_of b))
same_decides w a b l m = ((λ e n. ap (λ x. bits_of x n) (eqb-true a b e)), λ h. eq-eqb a b (bits_same w a b l m h))

-- `a.trailing_zeros()` is the place of the lowest one, where `a` has any.
pub trailing_least : (w a : ℕ) → a < 2 ^ w → (b : Bool) → MatchBool b (Nobody (bits_of a)) ((k : ℕ) × bits_of a k ≡ true) → Least (bits_of a) (then_some (not b) (count_trailing_zeros w a))
trailing_least w a l true none = none
trailing_least w a l false some =
    let ne : a ≡ 0 → ⊥ = λ z. both_ways _ (zero_none a z some.0) some.1 in
    let low = lowest_one w a (omega (arith, ne)) l in
    (low.there, low.below)

-- `a.checked_ilog2()` is the place of the highest one.
pub log_greatest : (a : ℕ) (o : Option ℕ) → IfNone o (a ≡ 0) → IfSome o (λ k. 2 ^ k ≤ a) → IfSome o (λ k. a < 2 * 2 ^ k) → Greatest (bits_of a) o
log_greatest a None z l m = zero_none a z
log_greatest a (Some k) z l m = let high = highest_one a k l (omega (arith, pow-suc 2 k)) in (high.there, high.above)
