-- Multiples of a number, and the rest that a number leaves by it.
use Rattle.std.proofs.Common.{◌≡◌, ℕ, suc, ◌+◌, ◌*◌, ◌/◌, ◌%◌, ◌<◌, ◌≤◌, true, ℤ, pos, negsuc, ◌+ℤ◌, ◌-ℤ◌, ◌*ℤ◌, nat_abs, ◌≤ℤ◌, ◌<ℤ◌, refl, ap, ◌∙◌, subst, mul-le-mul_left, arith}
use native.Mathlib.Nat.{mul-add-mod_self_left}
use borrow.Author.Differences.{up, down}
use Rattle.std.proofs.lemmas.Int.{ints, by_lt_z}
use Rattle.std.proofs.lemmas.Bool.{eqb-true, eq-eqb}
use Rattle.std.specs.Int.{int_rem_euclid}
use Rattle.statements.specs.Aligned.{multiple, rest}

-- z is d times some whole number.
abbrev pub Multiple : ℕ → ℤ → Type 0
Multiple d z = (q : ℤ) × (z ≡ (pos d *ℤ q))

pub multiple_made : (d : ℕ) (z : ℤ) → Multiple d z → multiple d z ≡ true
multiple_made d z (pos q, e) = eq-eqb _ _ (let s : nat_abs z ≡ d * q + 0 = omega (arith, ints) in ap (λ x. x % d) s ∙ mul-add-mod_self_left d q 0 ∙ omega arith)
multiple_made d z (negsuc q, e) = eq-eqb _ _ (let s : nat_abs z ≡ d * suc q + 0 = omega (arith, ints) in ap (λ x. x % d) s ∙ mul-add-mod_self_left d (suc q) 0 ∙ omega arith)

mul_mono : (d : ℕ) (a b : ℤ) → a ≤ℤ b → (pos d *ℤ a) ≤ℤ (pos d *ℤ b)
mul_mono d a b h =
    let k : up a + down b ≤ up b + down a = omega (arith, ints) in
    let m : d * (up a + down b) ≤ d * (up b + down a) = mul-le-mul_left d k in
    omega (arith, ints)

mul_suc : (d : ℕ) (p : ℤ) → (pos d *ℤ (p +ℤ pos 1)) ≡ ((pos d *ℤ p) +ℤ pos d)
mul_suc d p =
    let x = p +ℤ pos 1 in
    let e : up x + down p ≡ up p + down x + 1 = omega (arith, ints) in
    let m : d * (up x + down p) ≡ d * (up p + down x + 1) = ap (λ z. d * z) e in
    omega (arith, ints)

-- Between one multiple and the next there is none.
pub multiple-gap : (d : ℕ) (x y s : ℤ) → Multiple d x → Multiple d y → s <ℤ pos d → x ≤ℤ (y +ℤ s) → x ≤ℤ y
multiple-gap d x y s (q, e) (p, f) small h =
    by_lt_z p q
    (λ l.
    let m = mul_mono d (p +ℤ pos 1) q (omega (arith, ints)) in
    let n = mul_suc d p in
    absurd (omega (arith, ints)))
    (λ l. let m = mul_mono d q p l in omega (arith, ints))

pub multiple_neg : (d : ℕ) (z : ℤ) → Multiple d z → Multiple d (pos 0 -ℤ z)
multiple_neg d z (q, e) =
    let x = pos 0 -ℤ q in
    let s : up x + up q ≡ down x + down q = omega (arith, ints) in
    let m : d * (up x + up q) ≡ d * (down x + down q) = ap (λ w. d * w) s in
    (x, omega (arith, ints))

pub multiple_of : (d : ℕ) (z : ℤ) → multiple d z ≡ true → Multiple d z
multiple_of d (pos a) e = let r : a % d ≡ 0 = eqb-true _ _ e in (pos (a / d), omega (arith, ints))
multiple_of d (negsuc a) e =
    let r : suc a % d ≡ 0 = eqb-true _ _ e in
    let same : (pos 0 -ℤ pos (suc a)) ≡ negsuc a = omega (arith, ints) in
    subst (Multiple d) same (multiple_neg d (pos (suc a)) (pos (suc a / d), omega (arith, ints)))

-- ---- the rest

pub rest_below : (d : ℕ) (z : ℤ) → 0 < d → rest d z < d
rest_below d (pos a) h = omega arith
rest_below d (negsuc a) h = omega arith

-- A number less its rest is a multiple.
pub rest-multiple : (d : ℕ) (z : ℤ) → 0 < d → Multiple d (z -ℤ pos (rest d z))
rest-multiple d (pos a) h = (pos (a / d), omega (arith, ints))
rest-multiple d (negsuc a) h = (negsuc (a / d), omega (arith, ints))

-- The rest is the only number below d of which that holds.
pub rest_unique : (d : ℕ) (z : ℤ) (r : ℕ) → r < d → Multiple d (z -ℤ pos r) → rest d z ≡ r
rest_unique d z r h m =
    let k = rest-multiple d z (omega arith) in
    let b = rest_below d z (omega arith) in
    let p = multiple-gap d (z -ℤ pos r) (z -ℤ pos (rest d z)) (pos (rest d z) -ℤ pos r) m k (omega (arith, ints)) (omega (arith, ints)) in
    let q = multiple-gap d (z -ℤ pos (rest d z)) (z -ℤ pos r) (pos r -ℤ pos (rest d z)) k m (omega (arith, ints)) (omega (arith, ints)) in
    omega (arith, ints)

pub rest_euclid : (d : ℕ) (z : ℤ) → int_rem_euclid z (pos d) ≡ pos (rest d z)
rest_euclid d (pos a) = refl
rest_euclid d (negsuc a) = refl
