-- What is written is read: a word, a gap or a fault at the front of some bytes.
use Rattle.std.proofs.Common.{◌≡◌, ℕ, suc, ◌+◌, ◌-◌, ◌<◌, ◌≤◌, true, false, cond, eqb, ltb, List, [], ◌∷◌, ◌++◌, length, get_or, Some, None, Err, Option, sym, refl, ap, ◌∙◌, subst, arith, le-ltb, lt-ltb}
use lib.Seq.{drop-append_seam}
use Rattle.std.proofs.lemmas.Bool.Decides.{nat_tests}
use Rattle.std.proofs.lemmas.List.Elements.{All-head}
use Rattle.words.specs.declared.Keyword.{Keyword}
use Rattle.words.specs.declared.Symbol.{Symbol}
use Rattle.words.specs.declared.Symbol.TheVariants.{Colon, Plus, Open, Close, AtMost, Equals}
use Rattle.words.specs.declared.Slip.{Slip}
use Rattle.words.specs.declared.Slip.TheVariants.{Byte, Large, Long}
use Rattle.words.specs.Class.{between, class_of, is_class}
use Rattle.words.specs.Keywords.{keyword_of}
use Rattle.words.specs.Words.{solid, decimal, top, longest, Start, gap, word, bad, Word, name, number, reserved, symbol, Spot, before, words_from, onward, front_of, or_name}
use Rattle.words.specs.Laid.{Lettered, Digits, symbol_bytes, Written, Ended, Laid, Faulty}
use Rattle.words.specs.Laid as lay
use Rattle.words.proofs.Classes.{two_is, not_one, not_two, not_both, contrary, none_letter}
use Rattle.words.proofs.Fronts.{front_exact, get_or-seam}
use Rattle.words.proofs.Scan.{skipped, after}

-- the first of some digits
first_digit : {x : ℕ} {w : List ℕ} → Digits (x ∷ w) → solid 2 x ≡ true
first_digit {x} {w} by = All-head (λ b. solid 2 b ≡ true) x w by.made

-- a word that is written at the front is read there
name-front : (w s : List ℕ) (k : Option Keyword) → Lettered w → length w ≤ longest → solid 1 (get_or s 0 0) ≡ false → keyword_of w ≡ k → front_of (w ++ s) ≡ word (length w) (or_name k w)
name-front [] s k by le stops key = absurd (contrary (sym none_letter ∙ by.begins))
name-front (x ∷ w) s k by le stops key =
    let fits : ltb longest (length (x ∷ w)) ≡ false = le-ltb longest (length (x ∷ w)) le in
    rw (by.begins, front_exact (solid 1) (x ∷ w) s by.made stops, fits, key) refl

number-front : (w s : List ℕ) → Digits w → decimal w ≤ top → solid 1 (get_or s 0 0) ≡ false → front_of (w ++ s) ≡ word (length w) (number (decimal w))
number-front [] s by le stops = absurd (omega (arith, by.some))
number-front (x ∷ w) s by le stops =
    let is = two_is (class_of x) (first_digit by) in
    let no : is_class 1 x ≡ false = rw is refl in
    let yes : is_class 2 x ≡ true = rw is refl in
    let fits : ltb top (decimal (x ∷ w)) ≡ false = le-ltb top (decimal (x ∷ w)) le in
    let free : is_class 1 (get_or ((x ∷ w) ++ s) (length (x ∷ w)) 0) ≡ false = ap (is_class 1) (get_or-seam (x ∷ w) s) ∙ not_one (class_of (get_or s 0 0)) stops in
    rw (no, yes, front_exact (solid 2) (x ∷ w) s by.made (not_two (class_of (get_or s 0 0)) stops), fits, free) refl

symbol-front : (y : Symbol) (s : List ℕ) → front_of (symbol_bytes y ++ s) ≡ word (length (symbol_bytes y)) (symbol y)
unfolding class_of
symbol-front Colon s = refl
symbol-front Plus s = refl
symbol-front Open s = refl
symbol-front Close s = refl
symbol-front AtMost s = refl
symbol-front Equals s = refl

word-front : (w : Word) (bytes s : List ℕ) → Written w bytes → Ended w s → front_of (bytes ++ s) ≡ word (length bytes) w
word-front (name b) bytes s h e = name-front bytes s None h.1 h.2 e h.3 ∙ ap (λ l. word (length bytes) (name l)) h.0
word-front (number n) bytes s h e = number-front bytes s h.0 (rw h.1 h.2) e ∙ ap (λ m. word (length bytes) (number m)) h.1
word-front (reserved k) bytes s h e = name-front bytes s (Some k) h.0 h.1 e h.2
word-front (symbol y) bytes s h e = subst (λ l. front_of (l ++ s) ≡ word (length l) (symbol y)) (sym h) (symbol-front y s)

gap-front : (k : ℕ) (a b c : Start) → between 3 4 k ≡ true → cond (eqb k 1) a (cond (eqb k 2) b (cond (eqb k 3) gap (cond (eqb k 4) gap c))) ≡ gap
gap-front k a b c e = grind (arith, nat_tests)

foreign-front : (k : ℕ) (a b c : Start) → eqb k 0 ≡ true → cond (eqb k 1) a (cond (eqb k 2) b (cond (eqb k 3) gap (cond (eqb k 4) gap (cond (eqb k 5) c (bad 0 Byte))))) ≡ bad 0 Byte
foreign-front k a b c e = grind (arith, nat_tests)

less-front : (s : List ℕ) → eqb (get_or s 0 0) 61 ≡ false → front_of (60 ∷ s) ≡ bad 0 Byte
unfolding class_of
less-front s e = rw e refl

letter-front : (w : List ℕ) (b : ℕ) (s : List ℕ) → Digits w → decimal w ≤ top → is_class 1 b ≡ true → front_of (w ++ (b ∷ s)) ≡ bad (length w) Byte
letter-front [] b s by le e = absurd (omega (arith, by.some))
letter-front (x ∷ w) b s by le e =
    let is = two_is (class_of x) (first_digit by) in
    let no : is_class 1 x ≡ false = rw is refl in
    let yes : is_class 2 x ≡ true = rw is refl in
    let fits : ltb top (decimal (x ∷ w)) ≡ false = le-ltb top (decimal (x ∷ w)) le in
    let there : is_class 1 (get_or ((x ∷ w) ++ (b ∷ s)) (length (x ∷ w)) 0) ≡ true = ap (is_class 1) (get_or-seam (x ∷ w) (b ∷ s)) ∙ e in
    rw (no, yes, front_exact (solid 2) (x ∷ w) (b ∷ s) by.made (not_both (class_of b) e), fits, there) refl

large-front : (w s : List ℕ) → Digits w → solid 2 (get_or s 0 0) ≡ false → top < decimal w → front_of (w ++ s) ≡ bad 0 Large
large-front [] s by stops lt = absurd (omega (arith, by.some))
large-front (x ∷ w) s by stops lt =
    let is = two_is (class_of x) (first_digit by) in
    let no : is_class 1 x ≡ false = rw is refl in
    let yes : is_class 2 x ≡ true = rw is refl in
    let above : ltb top (decimal (x ∷ w)) ≡ true = lt-ltb top (decimal (x ∷ w)) lt in
    rw (no, yes, front_exact (solid 2) (x ∷ w) s by.made stops, above) refl

long-front : (w s : List ℕ) → Lettered w → solid 1 (get_or s 0 0) ≡ false → longest < length w → front_of (w ++ s) ≡ bad 0 Long
long-front [] s by stops lt = absurd (omega (arith, lt))
long-front (x ∷ w) s by stops lt =
    let above : ltb longest (length (x ∷ w)) ≡ true = lt-ltb longest (length (x ∷ w)) lt in
    rw (by.begins, front_exact (solid 1) (x ∷ w) s by.made stops, above) refl

-- a fault that stands at the front is found there
pub fault_front : {s : List ℕ} {f : Slip} {n : ℕ} → Faulty s f n → front_of s ≡ bad n f
fault_front (lay.foreign b s e) = foreign-front (class_of b) _ _ _ e
fault_front (lay.less s e) = less-front s e
fault_front (lay.letter w b s by le e) = letter-front w b s by le e
fault_front (lay.large w s by stops lt) = large-front w s by stops lt
fault_front (lay.long w s by stops lt) = long-front w s by stops lt

-- what is read where a word is written, and where a fault stands
reads_word : (c : ℕ) (w : Word) (bytes s : List ℕ) → 0 < length bytes → front_of (bytes ++ s) ≡ word (length bytes) w → words_from 0 c (bytes ++ s) ≡ before (record { column = c; word = w }) (words_from 0 (c + length bytes) s)
reads_word c w [] s some e = absurd (omega (arith, some))
reads_word c w (x ∷ bytes) s some e =
    let back : suc (length bytes) - 1 ≡ length bytes = omega arith in
    let far : c + 1 + length bytes ≡ c + suc (length bytes) = omega arith in
    ap (λ t. onward c t (λ skip. words_from skip (c + 1) (bytes ++ s))) e
    ∙ ap (λ k. before (record { column = c; word = w }) (words_from k (c + 1) (bytes ++ s))) back
    ∙ ap (before (record { column = c; word = w })) (skipped (length bytes) (c + 1) (bytes ++ s) ∙ rw (drop-append_seam bytes s, far) refl)

pub reads_fault : (c : ℕ) (s : List ℕ) (f : Slip) (n : ℕ) → front_of s ≡ bad n f → words_from 0 c s ≡ Err (f, c + n)
reads_fault c [] f n e = cc
reads_fault c (b ∷ s) f n e = ap (λ t. onward c t (λ skip. words_from skip (c + 1) s)) e

some_bytes : (w : Word) (bytes : List ℕ) → Written w bytes → 0 < length bytes
some_bytes (name b) [] h = absurd (contrary (sym none_letter ∙ h.1.begins))
some_bytes (name b) (x ∷ bytes) h = omega arith
some_bytes (number n) bytes h = h.0.some
some_bytes (reserved k) [] h = absurd (contrary (sym none_letter ∙ h.0.begins))
some_bytes (reserved k) (x ∷ bytes) h = omega arith
some_bytes (symbol y) bytes h = subst (λ l. 0 < length l) (sym h) (some-symbol y)
  where
    some-symbol : (y : Symbol) → 0 < length (symbol_bytes y)
    some-symbol Colon = omega arith
    some-symbol Plus = omega arith
    some-symbol Open = omega arith
    some-symbol Close = omega arith
    some-symbol AtMost = omega arith
    some-symbol Equals = omega arith

-- the words of a layout are read before what follows them
pub reads-laid : {c : ℕ} {s : List ℕ} {ws : List Spot} {d : ℕ} {r : List ℕ} → Laid c s ws d r → words_from 0 c s ≡ after ws (words_from 0 d r)
reads-laid (lay.end c s) = refl
reads-laid (lay.space c b s ws d r e h) =
    ap (λ t. onward c t (λ skip. words_from skip (c + 1) s)) (gap-front (class_of b) _ _ _ e) ∙ reads-laid h
reads-laid (lay.word c w bytes s ws d r written ended h) =
    reads_word c w bytes s (some_bytes w bytes written) (word-front w bytes s written ended) ∙ ap (before (record { column = c; word = w })) (reads-laid h)
