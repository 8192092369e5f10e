-- Which constraints name a cell: what a read tells of it, and that none names a cell that there is not.
use Rattle.std.proofs.Common.{◌≡◌, ℕ, zero, suc, ◌+◌, ◌<◌, ◌≤◌, Bool, true, false, cond, ◌&&◌, ◌||◌, eqb, ltb, List, [], ◌∷◌, ◌++◌, length, map, get_or, None, Option, sym, refl, ap, ◌∙◌, ⊎_elim, append-nil, arith}
use Rattle.std.specs.List.{range_with_len, slice_get}
use Rattle.std.proofs.lemmas.List.{get_or_past}
use Rattle.std.proofs.lemmas.List.FromFn.{get_or-map-range_with_len, length-map-range_with_len}
use Rattle.std.proofs.lemmas.Option.{slice_get_read, slice_get_past}
use Rattle.std.proofs.lemmas.Bool.{cases_lt, lt-ltb, ltb-true, ne_eqb, and_parts, and_right}
use Rattle.sets.specs.Members.{Members, Nobody, listed}
use Rattle.sets.proofs.Lists.{listed_more}
use Rattle.plan.specs.Forms.{named}
use Rattle.plan.specs.Known.{all_below, all_known}
use Rattle.plan.specs.declared.constraint.Constraint.{Constraint}
use Rattle.telling.specs.Tables.{any}
use Rattle.wakes.specs.Naming.{mentions, naming}

-- A read of a constraint tells whether it names the cell.
pub naming-read : (ks : List Constraint) (cell i : ℕ) (k : Constraint) → i < length ks → k ≡ get_or ks i k → any (λ x. eqb x cell) (named k.form) ≡ naming ks cell i
unfolding naming
naming-read ks cell i k l is = sym (ap (mentions cell) (slice_get_read ks (length ks) i k refl l is))

-- A test that fails where there is no constraint holds only below the count.
pub nth_below : (f : Option Constraint → Bool) (ks : List Constraint) (n j : ℕ) → f None ≡ false → length ks ≤ n → (ltb j n && f (slice_get ks j)) ≡ f (slice_get ks j)
nth_below f ks n j off l =
    ⊎_elim
    (λ lt. ap (λ b. b && f (slice_get ks j)) (lt-ltb j n lt))
    (λ ge. let no : f (slice_get ks j) ≡ false = ap f (slice_get_past ks j (omega arith)) ∙ off in and_right (ltb j n) (f (slice_get ks j)) no ∙ sym no)
    (cases_lt j n)

-- Numbers below n are none from n on.
below_none : (n x : ℕ) (cs : List ℕ) → n ≤ x → all_below n cs ≡ true → any (λ y. eqb y x) cs ≡ false
unfolding any
below_none n x [] l h = refl
below_none n x (c ∷ cs) l h =
    let parts = and_parts _ _ h in
    let lt : c < n = ltb-true c n parts.0 in
    ap (λ b. b || any (λ y. eqb y x) cs) (ne_eqb c x (λ e. omega arith)) ∙ below_none n x cs l parts.1

-- No constraint of a plan names a cell that there is not.
pub naming_none : (n m x : ℕ) (ks : List Constraint) → n ≤ x → all_known n m ks ≡ true → Nobody (naming ks x)
unfolding naming
naming_none n m x [] l h j = refl
naming_none n m x (k ∷ ks) l h zero = below_none n x (named k.form) l (and_parts _ _ (and_parts _ _ h).0).0
naming_none n m x (k ∷ ks) l h (suc j) = naming_none n m x ks l (and_parts _ _ h).1 j

-- Where there is no member nothing is listed.
pub listed_nobody : (s : Members) (n : ℕ) → Nobody s → listed s n ≡ []
unfolding listed
listed_nobody s zero none = refl
listed_nobody s (suc n) none = ap (λ b. listed s n ++ cond b (n ∷ []) []) (none n) ∙ append-nil (listed s n) ∙ listed_nobody s n none

-- A member is listed after those before it.
pub listed_with : (s : Members) (n : ℕ) → s n ≡ true → listed s (n + 1) ≡ listed s n ++ (n ∷ [])
listed_with s n on = listed_more s n ∙ ap (λ b. listed s n ++ cond b (n ∷ []) []) on

-- Any other number is not listed.
pub listed_without : (s : Members) (n : ℕ) → s n ≡ false → listed s (n + 1) ≡ listed s n
listed_without s n off = listed_more s n ∙ ap (λ b. listed s n ++ cond b (n ∷ []) []) off ∙ append-nil (listed s n)

-- Where the lists are those of the cells, and no constraint names another, each number has its list.
pub parts_listed : (ks : List Constraint) (cells : ℕ) (lists : List (List ℕ)) → lists ≡ map (λ x. listed (naming ks x) (length ks)) (range_with_len 0 cells)
    → ((x : ℕ) → cells ≤ x → Nobody (naming ks x)) → (x : ℕ) → get_or lists x [] ≡ listed (naming ks x) (length ks)
parts_listed ks cells lists e none x =
    let each = λ (x : ℕ). listed (naming ks x) (length ks) in
    ap (λ r. get_or r x []) e
    ∙ ⊎_elim
    (λ l. get_or-map-range_with_len each 0 cells x x [] l (omega arith))
    (λ g. get_or_past (map each (range_with_len 0 cells)) x [] (omega (arith, length-map-range_with_len each 0 cells)) ∙ sym (listed_nobody (naming ks x) (length ks) (none x g)))
    (cases_lt x cells)
