-- What the beginning of some bytes says of them.
use Rattle.std.proofs.Common.{◌≡◌, ℕ, ◌≤◌, Bool, true, false, cond, eqb, ltb, List, [], ◌∷◌, ◌++◌, length, get_or, drop, Some, None, Option, sym, refl, ap, ◌∙◌, subst, arith, eqb→eq, ltb-false, ltb-true}
use Rattle.std.proofs.lemmas.Bool.Decides.{nat_tests}
use Rattle.std.specs.List.{take_while, prefix_len}
use Rattle.std.proofs.lemmas.List.{take-append-drop}
use Rattle.words.specs.declared.Keyword.{Keyword}
use Rattle.words.specs.declared.Symbol.{Symbol}
use Rattle.words.specs.declared.Symbol.TheVariants.{Colon, Plus, Open, Close, AtMost, Equals}
use Rattle.words.specs.declared.Slip.TheVariants.{Byte, Large, Long}
use Rattle.words.specs.Class.{between, class_of, is_class, mark}
use Rattle.words.specs.Keywords.{keyword_of}
use Rattle.words.specs.Words.{solid, decimal, top, longest, Start, gap, word, bad, Word, symbol, front_of, or_name, name_at, number_at, symbol_at, symbol_of}
use Rattle.words.specs.Laid.{Lettered, Digits, symbol_bytes, Written, Ended, Faulty}
use Rattle.words.specs.Laid as lay
use Rattle.words.proofs.Classes.{T_of, letter-solid, digit-solid, not_either, contrary, class_most, no_other, none_solid, none_digit, none_letter, marked, gap_class, or_left, or_right}
use Rattle.words.proofs.Scan.{some-front}
use Rattle.words.proofs.Fronts.{front_all, front-first, front_stops, get_or-seam}

pick : (b n : ℕ) (y other : Symbol) → symbol_bytes y ≡ n ∷ [] → (eqb b n ≡ false → b ∷ [] ≡ symbol_bytes other) → b ∷ [] ≡ symbol_bytes (cond (eqb b n) y other)
pick b n y other is else = go (eqb b n) refl
  where
    go : (v : Bool) → eqb b n ≡ v → b ∷ [] ≡ symbol_bytes (cond v y other)
    go true e = ap (λ x. x ∷ []) (eqb→eq b n (T_of e)) ∙ sym is
    go false e = else e

last_mark : (b : ℕ) → mark b ≡ true → eqb b 58 ≡ false → eqb b 43 ≡ false → eqb b 40 ≡ false → eqb b 41 ≡ false → eqb b 60 ≡ false → b ≡ 61
last_mark b m e1 e2 e3 e4 e5 = grind (arith, nat_tests)

-- a byte of class 5 other than `<` writes its symbol
symbol_written : (b : ℕ) → is_class 5 b ≡ true → eqb b 60 ≡ false → b ∷ [] ≡ symbol_bytes (symbol_of b)
symbol_written b five less =
    pick b 58 Colon _ refl (λ e1. pick b 43 Plus _ refl (λ e2. pick b 40 Open _ refl (λ e3. pick b 41 Close Equals refl (λ e4.
    ap (λ x. x ∷ []) (last_mark b (marked b five) e1 e2 e3 e4 less)))))

-- a word at the front of some bytes, as it is written
pub record Front (n : ℕ) (w : Word) (s : List ℕ) : Type 0 where
  pub bytes : List ℕ
  pub more : List ℕ
  pub splits : bytes ++ more ≡ s
  pub size : n ≡ length bytes
  pub written : Written w bytes
  pub ended : Ended w more

-- what the beginning of some bytes says of them
abbrev pub Opens : Start → List ℕ → Type 0
Opens gap s = between 3 4 (class_of (get_or s 0 0)) ≡ true
Opens (word n w) s = Front n w s
Opens (bad n f) s = Faulty s f n

split : (P : Start → Type 0) (v : Bool) {a b : Start} → (v ≡ true → P a) → (v ≡ false → P b) → P (cond v a b)
split P true h k = h refl
split P false h k = k refl

name-opens : (w more s : List ℕ) → w ++ more ≡ s → Lettered w → solid 1 (get_or more 0 0) ≡ false → Opens (name_at w) s
name-opens w more s is by stops =
    split (λ t. Opens t s) (ltb longest (length w))
    (λ e. subst (λ l. Faulty l Long 0) is (lay.long w more by stops (ltb-true longest (length w) e)))
    (λ e. go (ltb-false longest (length w) e) (keyword_of w) refl)
  where
    go : length w ≤ longest → (k : Option Keyword) → keyword_of w ≡ k → Front (length w) (or_name k w) s
    go le (Some k) key = record { bytes = w; more = more; splits = is; size = refl; written = (by, le, key); ended = stops }
    go le None key = record { bytes = w; more = more; splits = is; size = refl; written = (refl, by, le, key); ended = stops }

number-opens : (w more s : List ℕ) → w ++ more ≡ s → Digits w → solid 2 (get_or more 0 0) ≡ false → Opens (number_at w s) s
number-opens w more s is by stops =
    split (λ t. Opens t s) (ltb top (decimal w))
    (λ e. subst (λ l. Faulty l Large 0) is (lay.large w more by stops (ltb-true top (decimal w) e)))
    (λ e. split (λ t. Opens t s) (is_class 1 (get_or s (length w) 0))
    (λ f. subst (λ l. Faulty l Byte (length w)) is (go more (ltb-false top (decimal w) e) (ap (is_class 1) (sym next) ∙ f)))
    (λ f. record {
      bytes = w;
      more = more;
      splits = is;
      size = refl;
      written = (by, refl, ltb-false top (decimal w) e);
      ended = not_either (class_of (get_or more 0 0)) stops (ap (is_class 1) (sym next) ∙ f);
    }))
  where
    next : get_or s (length w) 0 ≡ get_or more 0 0
    next = ap (λ l. get_or l (length w) 0) (sym is) ∙ get_or-seam w more

    go : (rest : List ℕ) → decimal w ≤ top → is_class 1 (get_or rest 0 0) ≡ true → Faulty (w ++ rest) Byte (length w)
    go [] le e = absurd (contrary (sym none_letter ∙ e))
    go (b ∷ rest) le e = lay.letter w b rest by le e

at_most : (b : ℕ) (s : List ℕ) → eqb b 60 ≡ true → eqb (get_or s 0 0) 61 ≡ true → Front 2 (symbol AtMost) (b ∷ s)
at_most b [] e f = absurd (grind arith)
at_most b (x ∷ s) e f =
    record {
      bytes = 60 ∷ 61 ∷ [];
      more = s;
      splits = rw (eqb→eq b 60 (T_of e), eqb→eq x 61 (T_of f)) refl;
      size = refl;
      written = refl;
      ended = tt;
    }

symbol-opens : (b : ℕ) (s : List ℕ) → is_class 5 b ≡ true → Opens (symbol_at b (get_or s 0 0)) (b ∷ s)
symbol-opens b s five =
    split (λ t. Opens t (b ∷ s)) (eqb b 60)
    (λ e. split (λ t. Opens t (b ∷ s)) (eqb (get_or s 0 0) 61)
    (λ f. at_most b s e f)
    (λ f. subst (λ x. Faulty (x ∷ s) Byte 0) (sym (eqb→eq b 60 (T_of e))) (lay.less s f)))
    (λ e. record { bytes = b ∷ []; more = s; splits = refl; size = refl; written = symbol_written b five e; ended = tt })

-- The beginning of some bytes is what is written there.
pub opens : (b : ℕ) (s : List ℕ) → Opens (front_of (b ∷ s)) (b ∷ s)
opens b s =
    let P : Start → Type 0 = λ t. Opens t (b ∷ s) in
    split P (is_class 1 b)
    (λ e1. name-opens (take_while (solid 1) (b ∷ s)) (drop (prefix_len (solid 1) (b ∷ s)) (b ∷ s)) (b ∷ s) (take-append-drop (prefix_len (solid 1) (b ∷ s)) (b ∷ s))
    (record { begins = ap (is_class 1) (front-first (solid 1) b s (letter-solid b e1)) ∙ e1; made = front_all (solid 1) (b ∷ s) }) (front_stops (solid 1) (b ∷ s) none_solid))
    (λ e1. split P (is_class 2 b)
    (λ e2. number-opens (take_while (solid 2) (b ∷ s)) (drop (prefix_len (solid 2) (b ∷ s)) (b ∷ s)) (b ∷ s) (take-append-drop (prefix_len (solid 2) (b ∷ s)) (b ∷ s))
    (record { some = some-front 2 b s (digit-solid b e2); made = front_all (solid 2) (b ∷ s) }) (front_stops (solid 2) (b ∷ s) none_digit))
    (λ e2. split P (is_class 3 b) (λ e3. gap_class (class_of b) (or_left _ _ e3))
    (λ e3. split P (is_class 4 b) (λ e4. gap_class (class_of b) (or_right _ _ e4))
    (λ e4. split P (is_class 5 b) (λ e5. symbol-opens b s e5)
    (λ e5. lay.foreign b s (no_other (class_of b) (class_most b) e1 e2 e3 e4 e5))))))
