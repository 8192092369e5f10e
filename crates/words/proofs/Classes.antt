-- Classes of bytes.
use Rattle.std.proofs.Common.{◌≡◌, ℕ, ◌≤◌, Bool, true, false, cond, ◌||◌, T, eqb, sym, refl, subst, arith, eqb→eq}
use Rattle.std.proofs.lemmas.Bool.Decides.{nat_tests}
use Rattle.words.specs.Class.{between, letter, digit, mark, class_of, is_class}
use Rattle.words.specs.Words.{solid}

pub T_of : {b : Bool} → b ≡ true → T b
T_of e = subst T (sym e) tt

-- a byte of class 1 is of a name, and one of class 2 of a name or a number
pub letter-solid : (b : ℕ) → is_class 1 b ≡ true → solid 1 b ≡ true
letter-solid b e = rw (eqb→eq (class_of b) 1 (T_of e)) refl

pub digit-solid : (b : ℕ) → is_class 2 b ≡ true → solid 2 b ≡ true
digit-solid b e = rw (eqb→eq (class_of b) 2 (T_of e)) refl

-- ranges of classes
pub two_is : (k : ℕ) → between 2 2 k ≡ true → k ≡ 2
two_is k e = grind (arith, nat_tests)

pub not_one : (k : ℕ) → between 1 2 k ≡ false → eqb k 1 ≡ false
not_one k e = grind (arith, nat_tests)

pub not_two : (k : ℕ) → between 1 2 k ≡ false → between 2 2 k ≡ false
not_two k e = grind (arith, nat_tests)

pub not_either : (k : ℕ) → between 2 2 k ≡ false → eqb k 1 ≡ false → between 1 2 k ≡ false
not_either k e f = grind (arith, nat_tests)

pub not_both : (k : ℕ) → eqb k 1 ≡ true → between 2 2 k ≡ false
not_both k e = grind (arith, nat_tests)

pub contrary : false ≡ true → ⊥
contrary e = cc

most : (v : Bool) (x y : ℕ) → x ≤ 5 → y ≤ 5 → cond v x y ≤ 5
most true x y h k = h
most false x y h k = k

-- there are six classes
pub class_most : (b : ℕ) → class_of b ≤ 5
unfolding class_of
class_most b =
    most (letter b) 1 _ (omega arith) (most (digit b) 2 _ (omega arith) (most (eqb b 32) 3 _ (omega arith) (most (eqb b 10) 4 _ (omega arith) (most (mark b) 5 0 (omega arith) (omega arith)))))

pub no_other : (k : ℕ) → k ≤ 5 → eqb k 1 ≡ false → eqb k 2 ≡ false → eqb k 3 ≡ false → eqb k 4 ≡ false → eqb k 5 ≡ false → eqb k 0 ≡ true
no_other k le e1 e2 e3 e4 e5 = grind (arith, nat_tests)

-- where no byte is, there is neither a letter nor a digit
pub none_solid : solid 1 0 ≡ false
unfolding class_of
none_solid = refl

pub none_digit : solid 2 0 ≡ false
unfolding class_of
none_digit = refl

pub none_letter : is_class 1 0 ≡ false
unfolding class_of
none_letter = refl

fifth : (a b c d e : Bool) → eqb (cond a 1 (cond b 2 (cond c 3 (cond d 4 (cond e 5 0))))) 5 ≡ true → e ≡ true
fifth true b c d e h = cc
fifth false true c d e h = cc
fifth false false true d e h = cc
fifth false false false true e h = cc
fifth false false false false true h = refl
fifth false false false false false h = cc

pub marked : (b : ℕ) → is_class 5 b ≡ true → mark b ≡ true
unfolding class_of
marked b h = fifth (letter b) (digit b) (eqb b 32) (eqb b 10) (mark b) h

pub gap_class : (k : ℕ) → (eqb k 3 || eqb k 4) ≡ true → between 3 4 k ≡ true
gap_class k e = grind (arith, nat_tests)

pub or_left : (a b : Bool) → a ≡ true → (a || b) ≡ true
or_left true b e = refl
or_left false b e = cc

pub or_right : (a b : Bool) → b ≡ true → (a || b) ≡ true
or_right true b e = refl
or_right false b e = e
