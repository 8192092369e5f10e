-- Elements of lists by their numbers, sets of numbers, and the constraints of a planned network.
use Rattle.std.proofs.Common.{◌≡◌, ℕ, zero, suc, ◌<◌, ◌≤◌, Bool, true, false, cond, not, ◌&&◌, ◌||◌, ltb, List, [], ◌∷◌, ◌++◌, filter, Some, None, Option, sym, refl, ap, subst, ⊎_elim, le_refl, arith}
use Rattle.std.specs.List.{slice_get, AllByRecursion}
use Rattle.std.proofs.lemmas.Option.{none-some}
use Rattle.std.proofs.lemmas.Bool.{cond_both, ltb-true, eqb-true, or_cases, or_parts, or_left, or_right, cases_eq, cases_lt, and_parts, not-true}
use Rattle.std.specs.Cmp.Derive.{both_true}
use Rattle.statements.proofs.Tests.{test_clash, test_cases}
use Rattle.sets.specs.Members.{Members, inside, count}
use Rattle.sets.proofs.Counts.{count_le}
use Rattle.plan.specs.Forms.{named}
use Rattle.plan.specs.Known.{all_below, owner_known, ranged, known, all_known}
use Rattle.plan.specs.Placements.{Placement, Premises, owned_by, InForce, Satisfies, Meets}
use Rattle.plan.specs.declared.constraint.Constraint.{Constraint}
use Rattle.calls.specs.Networks.{Net, Planned, in_force}
use Rattle.calls.specs.Boards.{any_below}

-- ---- options and lists

pub none_some : {A : Type 0} {X : Type 0} (a : A) → None ≡ Some a → X
none_some a e = absurd (none-some a e)

pub all_nth : {A : Type 0} (P : A → Type 0) (xs : List A) (i : ℕ) (x : A) → AllByRecursion P xs → slice_get xs i ≡ Some x → P x
all_nth P [] i x h e = none_some x e
all_nth P (y ∷ ys) zero x h e = subst P (cc) h.0
all_nth P (y ∷ ys) (suc i) x h e = all_nth P ys i x h.1 e

pub all_from_nth : {A : Type 0} (P : A → Type 0) (xs : List A) → ((i : ℕ) (x : A) → slice_get xs i ≡ Some x → P x) → AllByRecursion P xs
all_from_nth P [] h = tt
all_from_nth P (x ∷ xs) h = (h 0 x refl, all_from_nth P xs (λ i y e. h (suc i) y e))

pub all_push : {A : Type 0} (P : A → Type 0) (xs : List A) (x : A) → AllByRecursion P xs → P x → AllByRecursion P (xs ++ x ∷ [])
all_push P [] x h p = (p, tt)
all_push P (y ∷ ys) x h p = (h.0, all_push P ys x h.1 p)

pub all_kept : {A : Type 0} (P : A → Type 0) (test : A → Bool) (xs : List A) → AllByRecursion P xs → AllByRecursion P (filter test xs)
all_kept P test [] h = tt
all_kept P test (x ∷ xs) h =
    cond_both (test x) (x ∷ filter test xs) (filter test xs) (AllByRecursion P) (λ e. (h.0, all_kept P test xs h.1)) (λ e. all_kept P test xs h.1)

pub kept_pass : {A : Type 0} (test : A → Bool) (xs : List A) → AllByRecursion (λ x. test x ≡ true) (filter test xs)
kept_pass test [] = tt
kept_pass test (x ∷ xs) =
    cond_both (test x) (x ∷ filter test xs) (filter test xs) (AllByRecursion (λ y. test y ≡ true)) (λ e. (e, kept_pass test xs)) (λ e. kept_pass test xs)

-- Each number below the length has an element.
pub nth_cases : {A : Type 0} {P : Type 0} (o : Option A) → (o ≡ None → P) → ((x : A) → o ≡ Some x → P) → P
nth_cases None p q = p refl
nth_cases (Some x) p q = q x refl

-- ---- sets below a number

pub inside_at : (s t : Members) (n p : ℕ) → inside s t n ≡ true → p < n → s p ≡ true → t p ≡ true
unfolding inside
inside_at s t zero p e lt h = absurd (omega arith)
inside_at s t (suc n) p e lt h =
    let both = and_parts (not (s n) || t n) (inside s t n) e in
    ⊎_elim
    (λ q. ⊎_elim
    (λ a. test_clash (subst (λ z. s z ≡ true) q h) (not-true (s n) a))
    (λ a. subst (λ z. t z ≡ true) (sym q) a)
    (or_cases (not (s n)) (t n) both.0))
    (λ q. inside_at s t n p both.1 (omega arith) h)
    (cases_eq p n)

pub inside_made : (s t : Members) (n : ℕ) → ((p : ℕ) → s p ≡ true → t p ≡ true) → inside s t n ≡ true
unfolding inside
inside_made s t zero h = refl
inside_made s t (suc n) h = both_true (test_cases {P = (not (s n) || t n) ≡ true} (s n) (λ e. or_right (not (s n)) (t n) (h n e)) (λ e. or_left (not (s n)) (t n) (ap not e))) (inside_made s t n h)

pub any_below_no : (n : ℕ) (s : Members) → any_below n s ≡ false → (j : ℕ) → j < n → s j ≡ false
unfolding any_below
any_below_no zero s e j lt = absurd (omega arith)
any_below_no (suc n) s e j lt =
    let both = or_parts (any_below n s) (s n) e in
    ⊎_elim (λ q. subst (λ z. s z ≡ false) (sym q) both.1) (λ q. any_below_no n s both.0 j (omega arith)) (cases_eq j n)

pub any_below_yes : (n : ℕ) (s : Members) → any_below n s ≡ true → (j : ℕ) × (j < n) × (s j ≡ true)
unfolding any_below
any_below_yes zero s e = test_clash e refl
any_below_yes (suc n) s e =
    ⊎_elim (λ h. let r = any_below_yes n s h in (r.0, let q = r.1 in omega arith, r.2)) (λ h. (n, omega arith, h)) (or_cases (any_below n s) (s n) e)

-- ---- constraints in force

below_all : (n : ℕ) (xs : List ℕ) → all_below n xs ≡ true → AllByRecursion (λ x. x < n) xs
below_all n [] e = tt
below_all n (x ∷ xs) e = let h = and_parts (ltb x n) (all_below n xs) e in (ltb-true x n h.0, below_all n xs h.1)

owner_below : (n p : ℕ) (o : Option ℕ) → owner_known n o ≡ true → owned_by o p ≡ true → p < n
owner_below n p None e h = test_clash h refl
owner_below n p (Some q) e h = subst (λ z. z < n) (sym (eqb-true p q h)) (ltb-true q n e)

known_at : (n k : ℕ) (cs : List Constraint) (i : ℕ) (c : Constraint) → all_known n k cs ≡ true → slice_get cs i ≡ Some c → known n k c ≡ true
known_at n k [] i c e h = none_some c h
known_at n k (d ∷ ds) zero c e h = subst (λ z. known n k z ≡ true) (cc) (and_parts (known n k d) (all_known n k ds) e).0
known_at n k (d ∷ ds) (suc i) c e h = known_at n k ds i c (and_parts (known n k d) (all_known n k ds) e).1 h

module _ (N : Net) (ok : Planned N) where
  -- A constraint names only cells of the network.
  pub named_below : (j : ℕ) (k : Constraint) → slice_get N.constraints j ≡ Some k → AllByRecursion (λ x. x < N.cells) (named k.form)
  named_below j k e =
      below_all N.cells (named k.form)
      (and_parts (all_below N.cells (named k.form)) (owner_known N.premises k.owner && ranged k.form) (known_at N.cells N.premises N.constraints j k ok.known e)).0

  -- The test whether a constraint of the network is in force is yes exactly where it is.
  pub in_force-holds : (s : Premises) (j : ℕ) (k : Constraint) → slice_get N.constraints j ≡ Some k → in_force s k ≡ true → InForce s k
  unfolding in_force
  in_force-holds s j k e h p o =
      let kn = known_at N.cells N.premises N.constraints j k ok.known e in
      let r = (and_parts (all_below N.cells (named k.form)) (owner_known N.premises k.owner && ranged k.form) kn).1 in
      let lt = owner_below N.premises p k.owner (and_parts (owner_known N.premises k.owner) (ranged k.form) r).0 o in
      let few = ok.few_premises in
      inside_at (owned_by k.owner) s 32 p h (omega arith) o

pub in_force_made : (s : Premises) (k : Constraint) → InForce s k → in_force s k ≡ true
unfolding in_force
in_force_made s k h = inside_made (owned_by k.owner) s 32 h

-- ---- placements that meet premises

pub meets_at : (v : Placement) (s : Premises) (ks : List Constraint) (j : ℕ) (k : Constraint) → Meets v s ks → slice_get ks j ≡ Some k → InForce s k → Satisfies v k.form
meets_at v s [] j k h e f = none_some k e
meets_at v s (c ∷ cs) zero k h e f =
    let same : c ≡ k = cc in
    subst (λ z. Satisfies v z.form) same (h.0 (subst (InForce s) (sym same) f))
meets_at v s (c ∷ cs) (suc j) k h e f = meets_at v s cs j k h.1 e f

pub meets-from : (v : Placement) (s : Premises) (ks : List Constraint) → ((j : ℕ) (k : Constraint) → slice_get ks j ≡ Some k → InForce s k → Satisfies v k.form) → Meets v s ks
meets-from v s [] h = tt
meets-from v s (c ∷ cs) h = (h 0 c refl, meets-from v s cs (λ j k e. h (suc j) k e))

-- A placement that meets premises meets fewer.
pub meets_fewer : (v : Placement) (s s' : Premises) (ks : List Constraint) → ((p : ℕ) → s' p ≡ true → s p ≡ true) → Meets v s ks → Meets v s' ks
meets_fewer v s s' [] h k = tt
meets_fewer v s s' (c ∷ cs) h k = (λ f. k.0 (λ p o. h p (f p o)), meets_fewer v s s' cs h k.1)

-- ---- counts

count_one : (b : Bool) → cond b 1 0 ≤ 1
count_one true = le_refl 1
count_one false = omega arith

one_mono : (a b : Bool) → (a ≡ true → b ≡ true) → cond a 1 0 ≤ cond b 1 0
one_mono true b h = subst (λ z. 1 ≤ cond z 1 0) (sym (h refl)) (le_refl 1)
one_mono false b h = omega arith

pub count_mono : (s t : Members) (n : ℕ) → ((j : ℕ) → j < n → s j ≡ true → t j ≡ true) → count s n ≤ count t n
unfolding count
count_mono s t zero h = le_refl 0
count_mono s t (suc n) h = let a = count_mono s t n (λ j lt. h j (omega arith)) in let b = one_mono (s n) (t n) (h n (omega arith)) in omega arith

one_less : (a b : Bool) → a ≡ false → b ≡ true → cond a 1 0 < cond b 1 0
one_less a b p q = subst (λ z. cond z 1 0 < cond b 1 0) (sym p) (subst (λ z. 0 < cond z 1 0) (sym q) (omega arith))

-- A set that lost a member counts fewer.
pub count_less : (s t : Members) (n k : ℕ) → ((j : ℕ) → j < n → s j ≡ true → t j ≡ true) → k < n → s k ≡ false → t k ≡ true → count s n < count t n
unfolding count
count_less s t zero k h lt p q = absurd (omega arith)
count_less s t (suc n) k h lt p q =
    ⊎_elim
    (λ e.
    let a = count_mono s t n (λ j l. h j (omega arith)) in
    let b = one_less (s n) (t n) (subst (λ z. s z ≡ false) e p) (subst (λ z. t z ≡ true) e q) in
    omega arith)
    (λ e.
    let a = count_less s t n k (λ j l. h j (omega arith)) (omega arith) p q in
    let b = one_mono (s n) (t n) (h n (omega arith)) in
    omega arith)
    (cases_eq k n)

-- A set whose members are below c counts at most c.
pub count_below : (s : Members) (c n : ℕ) → ((j : ℕ) → s j ≡ true → j < c) → count s n ≤ c
unfolding count
count_below s c zero h = omega arith
count_below s c (suc n) h =
    ⊎_elim
    (λ lt. let a = count_le s n in let b = count_one (s n) in omega arith)
    (λ ge.
    let a = count_below s c n h in
    let b : cond (s n) 1 0 ≤ 0 = one_mono (s n) false (λ e. let l = h n e in absurd (omega arith)) in
    omega arith)
    (cases_lt n c)
