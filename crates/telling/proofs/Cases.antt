-- Cases on tests, on lists of cells, and on a table with another cell.
use Rattle.std.proofs.Common.{◌≡◌, ℕ, Bool, true, false, ◌||◌, eqb, List, [], ◌∷◌, ◌++◌, sym, refl, ap, subst, ⊎_elim}
use Rattle.std.specs.List.{AllByRecursion, list_any}
use Rattle.std.proofs.lemmas.Bool.{cond_both, cond-true, or_cases, or_parts, or_left, or_right, eq-eqb, eqb-true}
use Rattle.statements.proofs.Tests.{test_clash}
use Rattle.sets.specs.Members.{among}
use Rattle.telling.specs.Tables.{upd, any}

-- ---- a table with another cell at x

pub upd_cases : {A : Type 0} (P : A → Type 0) (T : ℕ → A) (x : ℕ) (c : A) (y : ℕ) → (x ≡ y → P c) → P (T y) → P (upd T x c y)
upd_cases P T x c y p q = cond_both (eqb x y) c (T y) P (λ e. p (eqb-true x y e)) (λ e. q)

pub upd-here : {A : Type 0} (T : ℕ → A) (x : ℕ) (c : A) → upd T x c x ≡ c
upd-here T x c = cond-true (eqb x x) c (T x) (eq-eqb x x refl)

-- ---- all and any

pub all_left : {A : Type 0} (P : A → Type 0) (xs ys : List A) → AllByRecursion P (xs ++ ys) → AllByRecursion P xs
all_left P [] ys h = tt
all_left P (x ∷ xs) ys h = (h.0, all_left P xs ys h.1)

pub all_right : {A : Type 0} (P : A → Type 0) (xs ys : List A) → AllByRecursion P (xs ++ ys) → AllByRecursion P ys
all_right P [] ys h = h
all_right P (x ∷ xs) ys h = all_right P xs ys h.1

pub all_weaker : {A : Type 0} (P Q : A → Type 0) → ((x : A) → P x → Q x) → (xs : List A) → AllByRecursion P xs → AllByRecursion Q xs
all_weaker P Q f [] p = tt
all_weaker P Q f (x ∷ xs) p = (f x p.0, all_weaker P Q f xs p.1)

pub all_both : {A : Type 0} (P Q R : A → Type 0) → ((x : A) → P x → Q x → R x) → (xs : List A) → AllByRecursion P xs → AllByRecursion Q xs → AllByRecursion R xs
all_both P Q R f [] p q = tt
all_both P Q R f (x ∷ xs) p q = (f x p.0 q.0, all_both P Q R f xs p.1 q.1)

pub all_of : {A : Type 0} (P : A → Type 0) → ((x : A) → P x) → (xs : List A) → AllByRecursion P xs
all_of P f [] = tt
all_of P f (x ∷ xs) = (f x, all_of P f xs)

pub any_none : {A : Type 0} (p : A → Bool) (xs : List A) → any p xs ≡ false → AllByRecursion (λ x. p x ≡ false) xs
unfolding any
any_none p [] e = tt
any_none p (x ∷ xs) e = let h = or_parts (p x) (any p xs) e in (h.0, any_none p xs h.1)

pub any_implied : {A : Type 0} (p q : A → Bool) (xs : List A) → AllByRecursion (λ x. p x ≡ true → q x ≡ true) xs → any p xs ≡ true → any q xs ≡ true
unfolding any
any_implied p q [] h e = e
any_implied p q (x ∷ xs) h e =
    ⊎_elim (λ a. or_left (q x) (any q xs) (h.0 a)) (λ a. or_right (q x) (any q xs) (any_implied p q xs h.1 a)) (or_cases (p x) (any p xs) e)

-- Where all fail, none passes.
pub any_clash : {A : Type 0} {X : Type 0} (p : A → Bool) (xs : List A) → AllByRecursion (λ x. p x ≡ false) xs → any p xs ≡ true → X
unfolding any
any_clash p [] h e = test_clash e refl
any_clash p (x ∷ xs) h e = ⊎_elim (λ a. test_clash a h.0) (λ a. any_clash p xs h.1 a) (or_cases (p x) (any p xs) e)

-- Whether some element passes is what the library's test says.
pub any-list : {A : Type 0} (p : A → Bool) (xs : List A) → any p xs ≡ list_any p xs
unfolding any
any-list p [] = refl
any-list p (x ∷ xs) = ap (λ b. p x || b) (any-list p xs)

-- ---- cells of a list

pub among-here : (x : ℕ) (xs : List ℕ) → among x (x ∷ xs) ≡ true
unfolding among
among-here x xs = or_left (eqb x x) (among x xs) (eq-eqb x x refl)

pub among_later : (x y : ℕ) (xs : List ℕ) → among x xs ≡ true → among x (y ∷ xs) ≡ true
unfolding among
among_later x y xs e = or_right (eqb x y) (among x xs) e

pub all_among : (P : ℕ → Type 0) (xs : List ℕ) (x : ℕ) → AllByRecursion P xs → among x xs ≡ true → P x
unfolding among
all_among P [] x h e = test_clash e refl
all_among P (y ∷ ys) x h e = ⊎_elim (λ a. subst P (sym (eqb-true x y a)) h.0) (λ a. all_among P ys x h.1 a) (or_cases (eqb x y) (among x ys) e)

-- Each cell of a list is among it.
pub all_themselves : (xs : List ℕ) → AllByRecursion (λ x. among x xs ≡ true) xs
all_themselves xs = go xs (λ x e. e)
  where
    go : (ys : List ℕ) → ((x : ℕ) → among x ys ≡ true → among x xs ≡ true) → AllByRecursion (λ x. among x xs ≡ true) ys
    go [] f = tt
    go (y ∷ ys) f = (f y (among-here y ys), go ys (λ x e. f x (among_later x y ys e)))
