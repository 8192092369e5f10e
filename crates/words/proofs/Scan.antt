-- What one turn of the reader does to the words that are read.
use Rattle.std.proofs.Common.{◌≡◌, ℕ, zero, suc, ◌+◌, ◌-◌, ◌<◌, ◌≤◌, Bool, true, false, cond, eqb, ltb, List, [], ◌∷◌, ◌++◌, map, length, get_or, take, drop, Ok, Err, Result, sym, refl, ap, ◌∙◌, subst, add-zero, arith, length-drop}
use Rattle.std.proofs.lemmas.List.{take_rest, map_push}
use Rattle.std.specs.List.{take_while}
use Rattle.std.proofs.lemmas.List.Folds.{length-prefix_len}
use Rattle.std.proofs.lemmas.List.Sums.{take_while-cons, prefix_len-le-length}
use Rattle.words.specs.declared.Slip.{Slip}
use Rattle.words.specs.declared.Placed.{Placed}
use Rattle.words.specs.declared.Slip.TheVariants.{Byte, Large, Long}
use Rattle.words.specs.declared.Symbol.TheVariants.{AtMost}
use Rattle.words.specs.Class.{is_class}
use Rattle.words.specs.Words.{solid, Start, gap, word, bad, Word, Spot, before, words_from, words_of, onward, front_of, name_at, number_at, symbol_at, decimal, top, symbol, meant, spot, longest}
use Rattle.words.proofs.Classes.{letter-solid, digit-solid}

-- a start lies within what it is the start of
abbrev pub Inside : Start → ℕ → Type 0
Inside gap m = Unit {0}
Inside (word n w) m = (0 < n) × (n ≤ m)
Inside (bad n f) m = n ≤ m

chosen : (P : Start → Type 0) (v : Bool) {a b : Start} → (v ≡ true → P a) → P b → P (cond v a b)
chosen P true h k = h refl
chosen P false h k = k

front_le : (p : ℕ → Bool) (s : List ℕ) → length (take_while p s) ≤ length s
front_le p s = omega (arith, length-prefix_len p s, prefix_len-le-length p s)

pub some-front : (k b : ℕ) (s : List ℕ) → solid k b ≡ true → 0 < length (take_while (solid k) (b ∷ s))
some-front k b s e = rw (take_while-cons, e) (omega arith)

name-inside : (w : List ℕ) (m : ℕ) → 0 < length w → length w ≤ m → Inside (name_at w) m
name-inside w m some le =
    let P : Start → Type 0 = λ t. Inside t m in
    chosen P (ltb longest (length w)) {a = bad 0 Long} (λ _. omega arith) (some, le)

number-inside : (w s : List ℕ) (m : ℕ) → 0 < length w → length w ≤ m → Inside (number_at w s) m
number-inside w s m some le =
    let P : Start → Type 0 = λ t. Inside t m in
    chosen P (ltb top (decimal w)) {a = bad 0 Large} (λ _. omega arith)
    (chosen P (is_class 1 (get_or s (length w) 0)) {a = bad (length w) Byte} (λ _. le) (some, le))

two : (s : List ℕ) → eqb (get_or s 0 0) 61 ≡ true → 2 ≤ suc (length s)
two [] e = absurd (grind arith)
two (x ∷ s) e = omega arith

symbol-inside : (b : ℕ) (s : List ℕ) → Inside (symbol_at b (get_or s 0 0)) (suc (length s))
symbol-inside b s =
    let P : Start → Type 0 = λ t. Inside t (suc (length s)) in
    chosen P (eqb b 60)
    (λ _. chosen P (eqb (get_or s 0 0) 61) {a = word 2 (symbol AtMost)} {b = bad 0 Byte} (λ e. (omega arith, two s e)) (omega arith))
    (omega arith, omega arith)

pub inside : (b : ℕ) (s : List ℕ) → Inside (front_of (b ∷ s)) (length (b ∷ s))
inside b s =
    let P : Start → Type 0 = λ t. Inside t (length (b ∷ s)) in
    chosen P (is_class 1 b)
    (λ is. name-inside (take_while (solid 1) (b ∷ s)) _ (some-front 1 b s (letter-solid b is)) (front_le (solid 1) (b ∷ s)))
    (chosen P (is_class 2 b)
    (λ is. number-inside (take_while (solid 2) (b ∷ s)) (b ∷ s) _ (some-front 2 b s (digit-solid b is)) (front_le (solid 2) (b ∷ s)))
    (chosen P (is_class 3 b) (λ _. tt) (chosen P (is_class 4 b) (λ _. tt) (chosen P (is_class 5 b) {b = bad 0 Byte} (λ _. symbol-inside b s) (omega arith)))))

pub skipped : (k col : ℕ) (s : List ℕ) → words_from k col s ≡ words_from 0 (col + k) (drop k s)
skipped zero col [] = refl
skipped (suc k) col [] = refl
skipped zero col (b ∷ s) = rw add-zero refl
skipped (suc k) col (b ∷ s) = skipped k (col + 1) s ∙ ap (λ n. words_from 0 n (drop k s)) (omega arith)

-- words in front of what is read from the rest
abbrev pub after : List Spot → Result (List Spot) (Slip × ℕ) → Result (List Spot) (Slip × ℕ)
after [] r = r
after (w ∷ ws) r = before w (after ws r)

pub after_push : (ws : List Spot) (w : Spot) (r : Result (List Spot) (Slip × ℕ)) → after (ws ++ w ∷ []) r ≡ after ws (before w r)
after_push [] w r = refl
after_push (x ∷ ws) w r = ap (before x) (after_push ws w r)

pub after_ok : (ws : List Spot) → after ws (Ok []) ≡ Ok ws
after_ok [] = refl
after_ok (x ∷ ws) = ap (before x) (after_ok ws)

pub after_err : (ws : List Spot) (f : Slip × ℕ) → after ws (Err f) ≡ Err f
after_err [] f = refl
after_err (x ∷ ws) f = ap (before x) (after_err ws f)

-- vs are the words before column c, and the rest is still to be read from there on
pub record Sofar (line : List ℕ) (vs : List Placed) (c : ℕ) (rest : List ℕ) : Type 0 where
  pub size : c + length rest ≡ length line + 1
  pub reads : words_of line ≡ after (map spot vs) (words_from 0 c rest)

pub fits : (rest : List ℕ) (t : Start) → 0 < length rest → t ≡ front_of rest → Inside t (length rest)
fits [] t some is = absurd (omega (arith, some))
fits (b ∷ s) t some is = subst (λ t. Inside t (length (b ∷ s))) (sym is) (inside b s)

pub gap_step : {line : List ℕ} {vs : List Placed} {c : ℕ} (rest : List ℕ) → 0 < length rest → gap ≡ front_of rest → Sofar line vs c rest → Sofar line vs (c + 1) (take (length rest - 1) (drop 1 rest))
gap_step {line} {vs} {c} [] some is e = absurd (omega (arith, some))
gap_step {line} {vs} {c} (b ∷ s) some is e =
    let more : drop 1 (b ∷ s) ≡ take (length (b ∷ s) - 1) (drop 1 (b ∷ s)) = sym (take_rest (b ∷ s) 1) in
    subst (Sofar line vs (c + 1)) more
    (record { size = omega (arith, e.size); reads = e.reads ∙ ap (λ t. after (map spot vs) (onward c t (λ skip. words_from skip (c + 1) s))) (sym is) })

pub word-step : {line : List ℕ} {vs : List Placed} {c : ℕ} (rest : List ℕ) {n : ℕ} {w : Word} (v : Placed) (us : List Placed) → us ≡ vs ++ v ∷ [] → 0 < length rest → word n w ≡ front_of rest → meant v.token ≡ w → v.column ≡ c → Sofar line vs c rest → Sofar line us (c + n) (take (length rest - n) (drop n rest))
word-step {line} {vs} {c} [] {n} {w} v us pushed some is means stands e = absurd (omega (arith, some))
word-step {line} {vs} {c} (b ∷ s) {n} {w} v us pushed some is means stands e =
    subst (Sofar line us (c + n)) (sym (take_rest (b ∷ s) n)) (go n (fits (b ∷ s) (word n w) some is) is)
  where
    at_word : Spot
    at_word = record { column = c; word = w }

    ends : map spot us ≡ map spot vs ++ at_word ∷ []
    ends = ap (map spot) pushed ∙ map_push spot vs v ∙ (λ i. map spot vs ++ record { column = stands i; word = means i } ∷ [])

    go : (n : ℕ) → (0 < n) × (n ≤ length (b ∷ s)) → word n w ≡ front_of (b ∷ s) → Sofar line us (c + n) (drop n (b ∷ s))
    go zero h is = absurd (omega (arith, h.0))
    go (suc m) h is =
        let back : suc m - 1 ≡ m = omega arith in
        let far : c + 1 + m ≡ c + suc m = omega arith in
        let rest : words_from (suc m - 1) (c + 1) s ≡ words_from 0 (c + suc m) (drop m s)
        = ap (λ k. words_from k (c + 1) s) back ∙ skipped m (c + 1) s ∙ ap (λ k. words_from 0 k (drop m s)) far in
        record {
          size = omega (arith, e.size, length-drop m s, h.1);
          reads = e.reads ∙ ap (λ t. after (map spot vs) (onward c t (λ skip. words_from skip (c + 1) s))) (sym is) ∙ ap (λ r. after (map spot vs) (before at_word r)) rest
              ∙ sym (after_push (map spot vs) at_word _) ∙ ap (λ l. after l (words_from 0 (c + suc m) (drop m s))) (sym ends);
        }

pub bad-step : {line : List ℕ} {vs : List Placed} {c : ℕ} (rest : List ℕ) {n : ℕ} {f : Slip} → 0 < length rest → bad n f ≡ front_of rest → Sofar line vs c rest → words_of line ≡ Err (f, c + n)
bad-step {line} {vs} {c} [] {n} {f} some is e = absurd (omega (arith, some))
bad-step {line} {vs} {c} (b ∷ s) {n} {f} some is e = e.reads ∙ ap (λ t. after (map spot vs) (onward c t (λ skip. words_from skip (c + 1) s))) (sym is) ∙ after_err (map spot vs) _

pub end_step : {line : List ℕ} {vs : List Placed} {c : ℕ} (rest : List ℕ) → length rest ≡ 0 → Sofar line vs c rest → words_of line ≡ Ok (map spot vs)
end_step {line} {vs} {c} [] none e = e.reads ∙ after_ok (map spot vs)
end_step {line} {vs} {c} (b ∷ s) none e = absurd (omega arith)

-- the part after some bytes is shorter
pub part-shorter : (rest : List ℕ) (n : ℕ) → 0 < n → n ≤ length rest → length (take (length rest - n) (drop n rest)) < length rest
part-shorter rest n some le = rw (take_rest rest n) (omega (arith, length-drop n rest))
