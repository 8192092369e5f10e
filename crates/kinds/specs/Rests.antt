-- Rests by a power of two and by a smaller one.
use Rattle.std.specs.Prelude.{◌≡◌, ℕ, ◌+◌, ◌-◌, ◌*◌, ◌/◌, ◌%◌, ◌^◌, ◌<◌, ◌≤◌, ℤ, pos, ◌+ℤ◌, ◌*ℤ◌}
use Rattle.std.proofs.Common.{sym, ap, ◌∙◌, mod-lt, mul-le-mul_left, arith, pow_pos}
use borrow.Author.Differences.{up, down}
use Rattle.std.proofs.lemmas.Nat.{pow-add}
use Rattle.std.proofs.lemmas.Int.{ints}
use Rattle.statements.specs.Aligned.{rest}
use Rattle.statements.proofs.Multiples.{rest-multiple, rest_unique}

pos_mul : (d c : ℕ) → 0 < d → 0 < c → 0 < d * c
pos_mul d c p q = let m = mul-le-mul_left d q in omega arith

-- The rest by d follows from the rest by a multiple of d.
rest_factor : (d c : ℕ) (z : ℤ) → 0 < d → 0 < c → rest d z ≡ rest (d * c) z % d
rest_factor d c z p q =
    let m = rest (d * c) z in
    let k = rest-multiple (d * c) z (pos_mul d c p q) in
    let x = (pos c *ℤ k.0) +ℤ pos (m / d) in
    let e = k.1 in
    let sum : up x + c * down k.0 ≡ c * up k.0 + m / d + down x = omega (arith, ints) in
    let times : d * (up x + c * down k.0) ≡ d * (c * up k.0 + m / d + down x) = ap (λ w. d * w) sum in
    let split : d * (m / d) + m % d ≡ m = omega arith in
    rest_unique d z (m % d) (mod-lt m p) (x, omega (arith, ints))

pub rest_coarser : (j k : ℕ) (z : ℤ) → j ≤ k → rest (2 ^ j) z ≡ rest (2 ^ k) z % 2 ^ j
rest_coarser j k z le =
    let sum : k ≡ j + (k - j) = omega arith in
    let e : 2 ^ k ≡ 2 ^ j * 2 ^ (k - j) = ap (λ i. 2 ^ i) sum ∙ pow-add 2 j (k - j) in
    rest_factor (2 ^ j) (2 ^ (k - j)) z (pow_pos j) (pow_pos (k - j)) ∙ ap (λ w. rest w z % 2 ^ j) (sym e)
