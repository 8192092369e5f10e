-- The ones of a word, place by place.
use Rattle.std.proofs.Common.{◌≡◌, ℕ, zero, suc, ◌+◌, ◌-◌, ◌*◌, ◌/◌, ◌%◌, ◌^◌, ◌<◌, ◌≤◌, Bool, true, false, not, ◌&&◌, ◌||◌, eqb, sym, refl, ap, ◌∙◌, subst, mod-lt, zero-lt-suc, pow-suc, arith}
use lib.Bits.{bit_and, bit_or}
use lib.Count.{count_trailing_zeros, ones, under, ones_step}
use Rattle.std.proofs.lemmas.Nat.{and_shr, or_shr, and_mod, or_mod, shr-shr}
use Rattle.std.proofs.lemmas.Bool.{eq-eqb, ne_eqb}
use Rattle.std.proofs.lemmas.Bool.Decides.{nat_tests}
use Rattle.sets.specs.Members.{Nobody, count}
use Rattle.sets.specs.Bits.{bits_of}
use Rattle.sets.proofs.Counts.{one, count_same, count-first}

-- ---- digits

small : (x : ℕ) → x % 2 < 2
small x = mod-lt x (zero-lt-suc 1)

-- An operation that takes words digit by digit does so at each place; four equations say what it does to digits.
by_places : (op : ℕ → ℕ → ℕ) (on : Bool → Bool → Bool)
    → ((a b n : ℕ) → op a b / 2 ^ n ≡ op (a / 2 ^ n) (b / 2 ^ n)) → ((a b : ℕ) → op a b % 2 ≡ op (a % 2) (b % 2))
    → eqb (op 0 0) 1 ≡ on false false → eqb (op 0 1) 1 ≡ on false true → eqb (op 1 0) 1 ≡ on true false → eqb (op 1 1) 1 ≡ on true true
    → (a b n : ℕ) → bits_of (op a b) n ≡ on (bits_of a n) (bits_of b n)
unfolding bits_of
by_places op on shifted digits none second first both a b n =
    ap (λ x. eqb (x % 2) 1) (shifted a b n) ∙ ap (λ x. eqb x 1) (digits (a / 2 ^ n) (b / 2 ^ n))
    ∙ digit (a / 2 ^ n % 2) (b / 2 ^ n % 2) (small (a / 2 ^ n)) (small (b / 2 ^ n))
  where
    digit : (x y : ℕ) → x < 2 → y < 2 → eqb (op x y) 1 ≡ on (eqb x 1) (eqb y 1)
    digit zero zero l m = none
    digit zero (suc zero) l m = second
    digit (suc zero) zero l m = first
    digit (suc zero) (suc zero) l m = both
    digit zero (suc (suc y)) l m = absurd (omega arith)
    digit (suc zero) (suc (suc y)) l m = absurd (omega arith)
    digit (suc (suc x)) y l m = absurd (omega arith)

-- A conjunction of words has the ones of both.
pub bits_and : (a b n : ℕ) → bits_of (bit_and a b) n ≡ (bits_of a n && bits_of b n)
bits_and = by_places bit_and ◌&&◌ and_shr (λ a b. and_mod a b 1) refl refl refl refl

-- A disjunction of words has the ones of either.
pub bits_or : (a b n : ℕ) → bits_of (bit_or a b) n ≡ (bits_of a n || bits_of b n)
bits_or = by_places bit_or ◌||◌ or_shr (λ a b. or_mod a b 1) refl refl refl refl

-- ---- one place after another

-- The lowest place tells odd from even.
pub bits_first : (a : ℕ) → bits_of a 0 ≡ eqb (a % 2) 1
unfolding bits_of
bits_first a = let e : a / 1 ≡ a = omega arith in ap (λ x. eqb (x % 2) 1) e

-- Half of a word has its ones one place lower.
pub bits_next : (a n : ℕ) → bits_of a (suc n) ≡ bits_of (a / 2) n
unfolding bits_of
bits_next a n = let e : suc n ≡ 1 + n = omega arith in ap (λ x. eqb (a / 2 ^ x % 2) 1) e ∙ ap (λ x. eqb (x % 2) 1) (sym (shr-shr a 1 n))

-- The word 0 has no one.
pub bits_zero : (n : ℕ) → bits_of 0 n ≡ false
bits_zero zero = bits_first 0
bits_zero (suc n) = bits_next 0 n ∙ bits_zero n

-- A word that is 0 means the empty set.
pub zero_none : (a : ℕ) → a ≡ 0 → Nobody (bits_of a)
zero_none a e n = ap (λ x. bits_of x n) e ∙ bits_zero n

twice : (k : ℕ) → 2 ^ suc k ≡ 2 * 2 ^ k
twice k = pow-suc 2 k ∙ omega arith

eqb_next : (n k : ℕ) → eqb (suc n) (suc k) ≡ eqb n k
eqb_next n k = grind (arith, nat_tests)

-- A power of two has a single one.
pub bits_one : (k n : ℕ) → bits_of (2 ^ k) n ≡ eqb n k
bits_one zero zero = bits_first 1
bits_one zero (suc n) = bits_next 1 n ∙ bits_zero n ∙ sym (ne_eqb (suc n) 0 (λ e. omega arith))
bits_one (suc k) zero =
    let e : 2 ^ suc k % 2 ≡ 0 = omega (arith, twice k) in
    bits_first (2 ^ suc k) ∙ ap (λ x. eqb x 1) e ∙ sym (ne_eqb 0 (suc k) (λ q. omega arith))
bits_one (suc k) (suc n) =
    let e : 2 ^ suc k / 2 ≡ 2 ^ k = omega (arith, twice k) in
    bits_next (2 ^ suc k) n ∙ ap (λ x. bits_of x n) e ∙ bits_one k n ∙ sym (eqb_next n k)

-- A word of w bits has no one from place w on.
pub bits_above : (w a n : ℕ) → a < 2 ^ w → w ≤ n → bits_of a n ≡ false
bits_above zero a n l h = let e : a ≡ 0 = omega arith in ap (λ x. bits_of x n) e ∙ bits_zero n
bits_above (suc w) a zero l h = absurd (omega arith)
bits_above (suc w) a (suc n) l h = bits_next a n ∙ bits_above w (a / 2) n (omega (arith, twice w)) (omega arith)

flip : (x : ℕ) → x < 2 → eqb (1 - x) 1 ≡ not (eqb x 1)
flip zero l = refl
flip (suc zero) l = refl
flip (suc (suc x)) l = absurd (omega arith)

-- The complement of a word of w bits has its ones where the word has none.
pub bits_not : (w a n : ℕ) → a < 2 ^ w → n < w → bits_of (2 ^ w - 1 - a) n ≡ not (bits_of a n)
bits_not zero a n l h = absurd (omega arith)
bits_not (suc w) a zero l h =
    let e : (2 ^ suc w - 1 - a) % 2 ≡ 1 - a % 2 = omega (arith, twice w) in
    bits_first (2 ^ suc w - 1 - a) ∙ ap (λ x. eqb x 1) e ∙ flip (a % 2) (small a) ∙ ap not (sym (bits_first a))
bits_not (suc w) a (suc n) l h =
    let e : (2 ^ suc w - 1 - a) / 2 ≡ 2 ^ w - 1 - a / 2 = omega (arith, twice w) in
    bits_next (2 ^ suc w - 1 - a) n ∙ ap (λ x. bits_of x n) e ∙ bits_not w (a / 2) n (omega (arith, twice w)) (omega arith) ∙ ap not (sym (bits_next a n))

-- ---- equal words

digits_same : (x y : ℕ) → x < 2 → y < 2 → eqb x 1 ≡ eqb y 1 → x ≡ y
digits_same x y l m e = grind (arith, nat_tests)

-- Words with the same ones are equal.
pub bits_same : (w a b : ℕ) → a < 2 ^ w → b < 2 ^ w → ((n : ℕ) → bits_of a n ≡ bits_of b n) → a ≡ b
bits_same zero a b l m h = omega arith
bits_same (suc w) a b l m h =
    let high : a / 2 ≡ b / 2 = bits_same w (a / 2) (b / 2) (omega (arith, twice w)) (omega (arith, twice w)) (λ n. sym (bits_next a n) ∙ h (suc n) ∙ bits_next b n) in
    let low : a % 2 ≡ b % 2 = digits_same (a % 2) (b % 2) (small a) (small b) (sym (bits_first a) ∙ h 0 ∙ bits_first b) in
    omega (arith, high, low)

-- ---- the lowest and the highest one

-- The lowest one of a word is at k.
pub record Lowest (a k : ℕ) : Type 0 where
  pub there : bits_of a k ≡ true
  pub below : (j : ℕ) → j < k → bits_of a j ≡ false

lowest_even : (a k : ℕ) → a % 2 ≡ 0 → Lowest (a / 2) k → Lowest a (suc k)
lowest_even a k e h = record { there = bits_next a k ∙ h.there; below = below }
  where
    below : (j : ℕ) → j < suc k → bits_of a j ≡ false
    below zero l = bits_first a ∙ ap (λ x. eqb x 1) e
    below (suc j) l = bits_next a j ∙ h.below j (omega arith)

-- As many zeros as a word ends with stand below its lowest one.
pub lowest_one : (w a : ℕ) → 0 < a → a < 2 ^ w → Lowest a (count_trailing_zeros w a)
unfolding count_trailing_zeros
lowest_one zero a p l = absurd (omega arith)
lowest_one (suc w) a p l = go (λ q. lowest_one w (a / 2) q (omega (arith, twice w))) (a % 2) refl
  where
    go : (0 < a / 2 → Lowest (a / 2) (count_trailing_zeros w (a / 2))) → (d : ℕ) → a % 2 ≡ d → Lowest a (under (a % 2) (count_trailing_zeros w (a / 2)))
    go rest zero e =
        subst (λ x. Lowest a (under x (count_trailing_zeros w (a / 2)))) (sym e)
        (lowest_even a (count_trailing_zeros w (a / 2)) e (rest (omega (arith, e))))
    go rest (suc d) e =
        subst (λ x. Lowest a (under x (count_trailing_zeros w (a / 2)))) (sym e)
        (record { there = bits_first a ∙ eq-eqb (a % 2) 1 (omega (arith, e, small a)); below = λ j q. absurd (omega arith) })

-- The highest one of a word is at k.
pub record Highest (a k : ℕ) : Type 0 where
  pub there : bits_of a k ≡ true
  pub above : (j : ℕ) → k < j → bits_of a j ≡ false

-- The highest one is the greatest power of two that the word reaches.
pub highest_one : (a k : ℕ) → 2 ^ k ≤ a → a < 2 ^ suc k → Highest a k
highest_one a k l m = record { there = there a k l m; above = λ j q. bits_above (suc k) a j m q }
  where
    there : (a k : ℕ) → 2 ^ k ≤ a → a < 2 ^ suc k → bits_of a k ≡ true
    there a zero l m = bits_first a ∙ eq-eqb (a % 2) 1 (omega arith)
    there a (suc k) l m = bits_next a k ∙ there (a / 2) k (omega (arith, twice k)) (omega (arith, twice k, twice (suc k)))

-- ---- the number of ones

digit_one : (x : ℕ) → x < 2 → x ≡ one (eqb x 1)
digit_one zero l = refl
digit_one (suc zero) l = refl
digit_one (suc (suc x)) l = absurd (omega arith)

-- The number of ones is the count of the set.
pub ones_count : (w a : ℕ) → a < 2 ^ w → ones a ≡ count (bits_of a) w
unfolding count ones
ones_count zero a l = let e : a ≡ 0 = omega arith in ap ones e
ones_count (suc w) a l =
    let rest = ones_count w (a / 2) (omega (arith, twice w)) in
    let next = count_same (bits_of (a / 2)) (λ j. bits_of a (suc j)) w (λ j q. bits_next a j) in
    omega (arith, ones_step a, rest, next, count-first (bits_of a) w, digit_one (a % 2) (small a), ap one (bits_first a))
