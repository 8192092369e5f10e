-- How many members a set has as one number joins it or leaves it.
use Rattle.std.proofs.Common.{◌≡◌, ℕ, zero, suc, ◌+◌, ◌<◌, ◌≤◌, Bool, true, false, cond, not, ◌&&◌, ◌||◌, eqb, sym, refl, ap, ◌∙◌, ⊎_elim, arith}
use Rattle.std.proofs.lemmas.Bool.{cases_eq, eq-eqb, ne_eqb, or_left, and_left, not_from_true}
use Rattle.sets.specs.Members.{Members, Nobody, Parted, count}
use Rattle.sets.proofs.Joining.{or_off}

-- What a number adds to the count.
abbrev pub one : Bool → ℕ
one b = cond b 1 0

one_le : (b : Bool) → one b ≤ 1
one_le true = omega arith
one_le false = omega arith

-- No more numbers below n are members than there are.
pub count_le : (s : Members) (n : ℕ) → count s n ≤ n
unfolding count
count_le s zero = omega arith
count_le s (suc n) = omega (arith, count_le s n, one_le (s n))

-- Sets with the same members below n have the same count.
pub count_same : (s t : Members) (n : ℕ) → ((j : ℕ) → j < n → t j ≡ s j) → count t n ≡ count s n
unfolding count
count_same s t zero h = refl
count_same s t (suc n) h = omega (arith, count_same s t n (λ j l. h j (omega arith)), ap one (h n (omega arith)))

-- A set without a member counts none.
pub count_none : (s : Members) (n : ℕ) → Nobody s → count s n ≡ 0
unfolding count
count_none s zero h = refl
count_none s (suc n) h = omega (arith, count_none s n h, ap one (h n))

-- The count may as well begin with the lowest number.
pub count-first : (s : Members) (n : ℕ) → count s (suc n) ≡ one (s 0) + count (λ j. s (suc j)) n
unfolding count
count-first s zero = omega arith
count-first s (suc n) = omega (arith, count-first s n)

-- A set with one member more counts one more.
count_more : (s t : Members) (k n : ℕ) → k < n → s k ≡ false → t k ≡ true → ((j : ℕ) → (j ≡ k → ⊥) → t j ≡ s j) → count t n ≡ count s n + 1
unfolding count
count_more s t k zero l a b h = absurd (omega arith)
count_more s t k (suc n) l a b h =
    ⊎_elim
    (λ e. omega (arith, count_same s t n (λ j lt. h j (λ q. omega arith)), ap one (ap s e ∙ a), ap one (ap t e ∙ b)))
    (λ ne. omega (arith, count_more s t k n (omega arith) a b h, ap one (h n ne)))
    (cases_eq n k)

-- A number that joins is counted.
pub count_joined : (s t : Members) (k n : ℕ) → k < n → s k ≡ false → ((j : ℕ) → t j ≡ (eqb j k || s j)) → count t n ≡ count s n + 1
count_joined s t k n l off joins =
    count_more s t k n l off (joins k ∙ or_left (eqb k k) (s k) (eq-eqb k k refl)) (λ j ne. joins j ∙ or_off (eqb j k) (s j) (ne_eqb j k ne))

-- A member that leaves was counted.
pub count_parted : (s t : Members) (k n : ℕ) → k < n → s k ≡ true → Parted s k t → count s n ≡ count t n + 1
count_parted s t k n l held parts =
    count_more t s k n l (parts k ∙ and_left (not (eqb k k)) (s k) (not_from_true _ (eq-eqb k k refl))) held
    (λ j ne. sym (parts j ∙ ap (λ b. not b && s j) (ne_eqb j k ne)))

-- A number that is no member leaves room for one.
pub count_room : (s : Members) (k n : ℕ) → k < n → s k ≡ false → count s n < n
count_room s k n l off =
    let t : Members = λ j. eqb j k || s j in
    omega (arith, count_joined s t k n l off (λ j. refl), count_le t n)
