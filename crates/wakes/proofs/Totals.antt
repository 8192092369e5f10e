-- How many numbers the parts of all cells hold: each constraint stands in the parts of the cells that it names, and so in
-- three at most.
use Rattle.std.proofs.Common.{◌≡◌, ℕ, zero, suc, ◌+◌, ◌*◌, ◌≤◌, Bool, true, false, cond, ◌||◌, eqb, List, [], ◌∷◌, length, Some, None, Option, refl, ap, ⊎_elim, arith, length-append}
use Rattle.std.specs.List.{slice_get}
use Rattle.std.proofs.lemmas.Bool.{cases_eq, eq-eqb, ne_eqb}
use Rattle.sets.specs.Members.{Members, count, listed}
use Rattle.sets.proofs.Counts.{one, count_none, count_same}
use Rattle.plan.specs.Forms.{named}
use Rattle.plan.specs.declared.constraint.Constraint.{Constraint}
use Rattle.plan.specs.declared.constraint.Form.{Form}
use Rattle.plan.specs.declared.constraint.Form.TheVariants.{State, Sum, Gap, Apart}
use Rattle.telling.specs.Tables.{any}
use Rattle.wakes.specs.Naming.{mentions, naming}

-- As many numbers are listed as there are members.
pub length-listed : (s : Members) (n : ℕ) → length (listed s n) ≡ count s n
unfolding listed count
length-listed s zero = refl
length-listed s (suc n) = omega (arith, length-append (listed s n) (cond (s n) (n ∷ []) []), length-listed s n, last (s n))
  where
    last : (b : Bool) → length (cond b (n ∷ []) []) ≡ one b
    last true = refl
    last false = refl

-- How many members the sets of the cells below x have below n, all together.
unfoldable pub total : (ℕ → Members) → ℕ → ℕ → ℕ
total s n zero = 0
total s n (suc x) = total s n x + count (s x) n

-- Of no cells there are none.
pub total_none : (s : ℕ → Members) (n : ℕ) → total s n 0 ≡ 0
unfolding total
total_none s n = refl

-- The next cell adds its own.
pub total_more : (s : ℕ → Members) (n x : ℕ) → total s n (x + 1) ≡ total s n x + count (s x) n
unfolding total
total_more s n x = let e : x + 1 ≡ suc x = omega arith in ap (total s n) e

-- Counted by numbers: the next number adds the cells whose set it is in.
total_across : (s : ℕ → Members) (n x : ℕ) → total s (suc n) x ≡ total s n x + count (λ y. s y n) x
unfolding total count
total_across s n zero = refl
total_across s n (suc x) = omega (arith, total_across s n x)

-- Below 0 no set has a member.
total_empty : (s : ℕ → Members) (x : ℕ) → total s 0 x ≡ 0
unfolding total count
total_empty s zero = refl
total_empty s (suc x) = omega (arith, total_empty s x)

-- Where each number is in the sets of three cells at most.
total_le : (s : ℕ → Members) (n x : ℕ) → ((j : ℕ) → count (λ y. s y j) x ≤ 3) → total s n x ≤ 3 * n
total_le s zero x h = omega (arith, total_empty s x)
total_le s (suc n) x h = omega (arith, total_across s n x, total_le s n x h, h n)

-- Two sets together have no more members than both.
count_either : (s t : Members) (n : ℕ) → count (λ x. s x || t x) n ≤ count s n + count t n
unfolding count
count_either s t zero = omega arith
count_either s t (suc n) = omega (arith, count_either s t n, last (s n) (t n))
  where
    last : (a b : Bool) → one (a || b) ≤ one a + one b
    last true b = omega arith
    last false b = omega arith

-- At most one number is y.
count_single : (y n : ℕ) → count (λ x. eqb y x) n ≤ 1
unfolding count
count_single y zero = omega arith
count_single y (suc n) =
    ⊎_elim
    (λ e. omega (arith, count_same (λ x. false) (λ x. eqb y x) n (λ j l. ne_eqb y j (λ q. omega arith)), count_none (λ x. false) n (λ x. refl), ap one (eq-eqb y n e)))
    (λ ne. omega (arith, count_single y n, ap one (ne_eqb y n ne)))
    (cases_eq y n)

-- No more cells stand in a list than it is long.
count_any : (cs : List ℕ) (n : ℕ) → count (λ x. any (λ y. eqb y x) cs) n ≤ length cs
unfolding any
count_any [] n = omega (arith, count_none (λ x. false) n (λ x. refl))
count_any (c ∷ cs) n = omega (arith, count_either (λ x. eqb c x) (λ x. any (λ y. eqb y x) cs) n, count_single c n, count_any cs n)

-- A form names three cells at most.
named_length : (f : Form) → length (named f) ≤ 3
named_length (State c s) = omega arith
named_length (Sum a b c) = omega arith
named_length (Gap a d b) = omega arith
named_length (Apart a d b e) = omega arith

-- So does a constraint, and where there is none no cell is named.
count_mentions : (k : Option Constraint) (n : ℕ) → count (λ x. mentions x k) n ≤ 3
count_mentions None n = omega (arith, count_none (λ x. false) n (λ x. refl))
count_mentions (Some k) n = omega (arith, count_any (named k.form) n, named_length k.form)

-- The parts of n constraints hold 3 · n numbers at most.
pub total_naming : (ks : List Constraint) (n x : ℕ) → total (naming ks) n x ≤ 3 * n
unfolding naming
total_naming ks n x = total_le (naming ks) n x (λ j. count_mentions (slice_get ks j) x)
