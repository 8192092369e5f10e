-- Each word stands in its line, after the word before it.
use Rattle.std.proofs.Common.{◌≡◌, ℕ, zero, suc, ◌+◌, ◌-◌, ◌≤◌, Bool, true, false, cond, eqb, ltb, List, [], ◌∷◌, length, get_or, take, drop, Some, None, Ok, Err, Option, Result, refl, ap, ◌∙◌, subst, arith, length-drop, drop-drop, ltb-false}
use Rattle.std.specs.List.{AllByRecursion, take_while}
use Rattle.std.proofs.lemmas.List.Elements.{All-from_recursion}
use Rattle.std.proofs.lemmas.List.Folds.{length-prefix_len}
use Rattle.words.specs.declared.Keyword.{Keyword}
use Rattle.words.specs.declared.Slip.{Slip}
use Rattle.words.specs.Class.{is_class}
use Rattle.words.specs.Keywords.{keyword_of}
use Rattle.words.specs.Words.{solid, Start, gap, word, bad, Word, name, number, reserved, symbol, Spot, before, words_from, onward, front_of, or_name, name_at, number_at, symbol_at, decimal, top, longest}
use Rattle.words.specs.Spelling.{WordAt, Stands, Rising, WordsStand, WordsRise}

-- a word at the front of some bytes is as those bytes have it
abbrev Spelled : Start → List ℕ → Type 0
Spelled gap s = Unit {0}
Spelled (word n w) s = WordAt s 1 w
Spelled (bad n f) s = Unit {0}

split : (P : Start → Type 0) (v : Bool) {a b : Start} → (v ≡ true → P a) → (v ≡ false → P b) → P (cond v a b)
split P true h k = h refl
split P false h k = k refl

or_name_lem : (k : Option Keyword) (w s : List ℕ) → take (length w) s ≡ w → length w ≤ longest → WordAt s 1 (or_name k w)
or_name_lem (Some k) w s e le = tt
or_name_lem None w s e le = (e, le)

name-spelled_at : (w s : List ℕ) → take (length w) s ≡ w → Spelled (name_at w) s
name-spelled_at w s e =
    split (λ t. Spelled t s) (ltb longest (length w)) (λ _. tt) (λ no. or_name_lem (keyword_of w) w s e (ltb-false longest (length w) no))

number_spelled : (w s r : List ℕ) → Spelled (number_at w r) s
number_spelled w s r =
    let P : Start → Type 0 = λ t. Spelled t s in
    split P (ltb top (decimal w)) (λ _. tt) (λ small. split P (is_class 1 (get_or r (length w) 0)) (λ _. tt) (λ _. ltb-false top (decimal w) small))

symbol-spelled : (b c : ℕ) (s : List ℕ) → Spelled (symbol_at b c) s
symbol-spelled b c s =
    let P : Start → Type 0 = λ t. Spelled t s in
    split P (eqb b 60) (λ _. split P (eqb c 61) (λ _. tt) (λ _. tt)) (λ _. tt)

front-spelled : (b : ℕ) (s : List ℕ) → Spelled (front_of (b ∷ s)) (b ∷ s)
front-spelled b s =
    let P : Start → Type 0 = λ t. Spelled t (b ∷ s) in
    split P (is_class 1 b) (λ _. name-spelled_at (take_while (solid 1) (b ∷ s)) (b ∷ s) (ap (λ n. take n (b ∷ s)) (length-prefix_len (solid 1) (b ∷ s))))
    (λ _. split P (is_class 2 b) (λ _. number_spelled (take_while (solid 2) (b ∷ s)) (b ∷ s) (b ∷ s))
    (λ _. split P (is_class 3 b) (λ _. tt)
    (λ _. split P (is_class 4 b) (λ _. tt)
    (λ _. split P (is_class 5 b) (λ _. symbol-spelled b (get_or s 0 0) (b ∷ s)) (λ _. tt)))))

-- a name at the front of the line's rest from i on stands at column i + 1
placed : (line : List ℕ) (i : ℕ) (w : Word) → WordAt (drop i line) 1 w → WordAt line (i + 1) w
placed line i (name b) h =
    let back : i + 1 - 1 ≡ i = omega arith in
    (rw back h.0, h.1)
placed line i (number n) h = h
placed line i (reserved k) h = tt
placed line i (symbol s) h = tt

lower : (c d : ℕ) (ws : List Spot) → c ≤ d → Rising d ws → Rising c ws
lower c d [] le r = tt
lower c d (w ∷ ws) le r = (omega (arith, r.0), r.1)

-- the words from column i + 1 on stand in the line, after column i
abbrev Lies : List ℕ → ℕ → List Spot → Type 0
Lies line i ws = AllByRecursion (Stands line) ws × Rising i ws

same_words : (us ws : List Spot) → ◌≡◌ {A = Result (List Spot) (Slip × ℕ)} (Ok us) (Ok ws) → us ≡ ws
same_words us ws e = cc

lies : (line : List ℕ) (s : List ℕ) (k i : ℕ) (ws : List Spot) → s ≡ drop i line → words_from k (i + 1) s ≡ Ok ws → Lies line i ws
lies line [] k i ws is e = subst (Lies line i) (same_words [] ws e) (tt, tt)
lies line (b ∷ s) (suc k) i ws is e =
    let r = lies line s k (i + 1) ws (ap (drop 1) is ∙ drop-drop 1 i line) e in
    (r.0, lower i (i + 1) ws (omega arith) r.1)
lies line (b ∷ s) zero i ws is e =
    let r : (j : ℕ) (vs : List Spot) → words_from j (i + 1 + 1) s ≡ Ok vs → Lies line (i + 1) vs
    = λ j vs h. lies line s j (i + 1) vs (ap (drop 1) is ∙ drop-drop 1 i line) h in
    go (front_of (b ∷ s)) (subst (Spelled (front_of (b ∷ s))) is (front-spelled b s)) r e
  where
    wide : suc (length s) ≡ length line - i
    wide = ap length is ∙ length-drop i line

    put : (w : Word) → WordAt (drop i line) 1 w → (m : Result (List Spot) (Slip × ℕ)) → ((vs : List Spot) → m ≡ Ok vs → Lies line (i + 1) vs) → before (record { column = i + 1; word = w }) m ≡ Ok ws → Lies line i ws
    put w h (Ok vs) ih e =
        let r = ih vs refl in
        let here : Stands line (record { column = i + 1; word = w }) = record { after_start = omega arith; before_end = omega (arith, wide); spelled = placed line i w h } in
        subst (Lies line i) (same_words _ ws e) ((here, r.0), (omega arith, r.1))
    put w h (Err f) ih e = cc

    go : (t : Start) → Spelled t (drop i line) → ((j : ℕ) (vs : List Spot) → words_from j (i + 1 + 1) s ≡ Ok vs → Lies line (i + 1) vs) → onward (i + 1) t (λ skip. words_from skip (i + 1 + 1) s) ≡ Ok ws → Lies line i ws
    go gap h ih e = let r = ih 0 ws e in (r.0, lower i (i + 1) ws (omega arith) r.1)
    go (word n w) h ih e = put w h (words_from (n - 1) (i + 1 + 1) s) (ih (n - 1)) e
    go (bad n f) h ih e = cc

pub words_stand : WordsStand
words_stand line ws e = All-from_recursion (Stands line) ws (lies line line 0 0 ws refl e).0

pub words_rise : WordsRise
words_rise line ws e = (lies line line 0 0 ws refl e).1

-- A name among the words of a line is the line's bytes at its column.
pub name-spelled : (line : List ℕ) (s : Spot) (b : List ℕ) → Stands line s → s.word ≡ name b → (take (length b) (drop (s.column - 1) line) ≡ b) × (length b ≤ longest)
name-spelled line s b h e = subst (WordAt line s.column) e h.spelled
