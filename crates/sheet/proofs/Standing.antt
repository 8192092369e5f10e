-- Where the lines of a text stand in it, and that the names and numbers of a line stand as its words do.
use Rattle.std.proofs.Common.{◌≡◌, ℕ, suc, ◌+◌, ◌-◌, ◌≤◌, min, Bool, true, false, cond, eqb, leb, List, [], ◌∷◌, ◌++◌, length, take, drop, Some, None, Ok, sym, refl, ap, ◌∙◌, subst, arith}
use Rattle.std.specs.List.{slice_get, onto_first, All, AllByRecursion}
use Rattle.std.proofs.lemmas.List.{length-take, length-drop, take-take, drop-drop, drop-take}
use Rattle.std.proofs.lemmas.Bool.{le-leb}
use Rattle.std.proofs.lemmas.List.Elements.{recursion_from_All}
use Rattle.words.specs.Words.{Spot, words_of}
use Rattle.words.specs.Spelling as spelling
use Rattle.words.proofs.Spelling.{words_stand}
use Rattle.grammar.specs.Tree.{Name, Expr, one, plus, Term, named, counted, group, Body, within, aligned, apart, at_most, Line, blank, cell, premise, constraint, name_spot, spell, spell_term, spell_owner, spell_body, spell_line}
use Rattle.grammar.specs.Parse.{read, parse_line}
use Rattle.grammar.proofs.Sound.{reads}
use Rattle.plan.specs.Names.{Texts, cut, cut_in, part_of}
use Rattle.meaning.specs.Making.{place_of}
use Rattle.meaning.specs.Building.{Counts, TermCounts, BodyCounts, Stands}
use Rattle.sheet.specs.Reads.{limit}
use Rattle.sheet.specs.Sheets.{lines_of}

-- ---- the lines of a text

-- some bytes are those of a text from an offset on
pub record LineAt (text : List ℕ) (o : ℕ) (l : List ℕ) : Type 0 where
  pub here : take (length l) (drop o text) ≡ l
  pub inside : o + length l ≤ length text

-- lines stand one after the other in a text from an offset on, with one byte between two
abbrev pub Follow : List ℕ → ℕ → List (List ℕ) → Type 0
Follow text o [] = Unit {0}
Follow text o (l ∷ ls) = LineAt text o l × Follow text (o + length l + 1) ls

-- one byte more before a text moves its lines by one
follow_later : (b : ℕ) (text : List ℕ) (o : ℕ) (ls : List (List ℕ)) → Follow text o ls → Follow (b ∷ text) (suc o) ls
follow_later b text o [] h = tt
follow_later b text o (l ∷ ls) h =
    let next : suc (o + length l + 1) ≡ suc o + length l + 1 = omega arith in
    (record { here = h.0.here; inside = omega (arith, h.0.inside) }, subst (λ n. Follow (b ∷ text) n ls) next (follow_later b text (o + length l + 1) ls h.1))

-- a byte before the first line of a text
follow_onto : (b : ℕ) (text : List ℕ) (ls : List (List ℕ)) → Follow text 0 ls → Follow (b ∷ text) 0 (onto_first b ls)
follow_onto b text [] h = (record { here = refl; inside = omega arith }, tt)
follow_onto b text (l ∷ ls) h =
    let next : suc (0 + length l + 1) ≡ 0 + suc (length l) + 1 = omega arith in
    (record { here = ap (λ (r : List ℕ). b ∷ r) h.0.here; inside = omega (arith, h.0.inside) }, subst (λ n. Follow (b ∷ text) n ls) next (follow_later b text (0 + length l + 1) ls h.1))

-- a byte before a text, whether or not it ends a line
follow_cond : (v : Bool) (b : ℕ) (text : List ℕ) (ls : List (List ℕ)) → Follow text 0 ls → Follow (b ∷ text) 0 (cond v ([] ∷ ls) (onto_first b ls))
follow_cond true b text ls h = (record { here = refl; inside = omega arith }, follow_later b text 0 ls h)
follow_cond false b text ls h = follow_onto b text ls h

-- the lines of a text stand one after the other in it
pub lines_follow : (text : List ℕ) → Follow text 0 (lines_of text)
lines_follow [] = (record { here = refl; inside = omega arith }, tt)
lines_follow (b ∷ s) = follow_cond (eqb b 10) b s (lines_of s) (lines_follow s)

-- ---- a name

-- what stands in a line stands in the text of the line, further on by the line's offset
part_in : (text bytes b : List ℕ) (o k : ℕ) → LineAt text o bytes → k ≤ length bytes → take (length b) (drop k bytes) ≡ b → cut text (o + k) (length b) ≡ Some b
part_in text bytes b o k at low is =
    let size : min (length b) (length bytes - k) ≡ length b = ap (λ n. min (length b) n) (sym (length-drop k bytes)) ∙ sym (length-take (length b) (drop k bytes)) ∙ ap length is in
    let m = length bytes - k in
    let small : length b ≤ m = omega arith in
    let whole : k + m ≡ length bytes = omega arith in
    let past : drop k bytes ≡ take m (drop k (drop o text)) =
    ap (drop k) (sym at.here) ∙ ap (λ n. drop k (take n (drop o text))) (sym whole) ∙ drop-take k m (drop o text) in
    let same : take (length b) (drop (o + k) text) ≡ b =
    ap (take (length b)) (sym (drop-drop k o text)) ∙ sym (take-take (length b) m (drop k (drop o text)) small) ∙ ap (take (length b)) (sym past) ∙ is in
    let fine : leb (o + k + length b) (length text) ≡ true = le-leb (o + k + length b) (length text) (omega (arith, at.inside)) in
    ap (λ v. cond v (Some (take (length b) (drop (o + k) text))) None) fine ∙ ap (λ (r : List ℕ). Some r) same

-- a name among the words of a line is the part of the text at its place
name-part : (ts : Texts) (t o : ℕ) (text bytes : List ℕ) (n : Name) → slice_get ts t ≡ Some text → LineAt text o bytes → spelling.Stands bytes (name_spot n) → part_of ts (place_of t o n) ≡ Some n.bytes
name-part ts t o text bytes n is at h =
    ap (λ x. cut_in x (o + (n.column - 1)) (length n.bytes)) is
    ∙ part_in text bytes n.bytes o (n.column - 1) at (omega (arith, h.before_end)) h.spelled.0

-- ---- numbers

-- words that stand in a line do so in part
each_front : (bytes : List ℕ) (us vs : List Spot) → AllByRecursion (spelling.Stands bytes) (us ++ vs) → AllByRecursion (spelling.Stands bytes) us
each_front bytes [] vs h = tt
each_front bytes (u ∷ us) vs h = (h.0, each_front bytes us vs h.1)

each_back : (bytes : List ℕ) (us vs : List Spot) → AllByRecursion (spelling.Stands bytes) (us ++ vs) → AllByRecursion (spelling.Stands bytes) vs
each_back bytes [] vs h = h
each_back bytes (u ∷ us) vs h = each_back bytes us vs h.1

-- each number of an expression is one of its words, and so not too large
mutual
  expr_counts : (bytes : List ℕ) (e : Expr) → AllByRecursion (spelling.Stands bytes) (spell e) → Counts e
  expr_counts bytes (one t) h = term_counts bytes t h
  expr_counts bytes (plus e c t) h = (expr_counts bytes e (each_front bytes (spell e) _ h), term_counts bytes t (each_back bytes (spell e) _ h).1)

  term_counts : (bytes : List ℕ) (t : Term) → AllByRecursion (spelling.Stands bytes) (spell_term t) → TermCounts t
  term_counts bytes (named n) h = tt
  term_counts bytes (counted k) h = h.0.spelled
  term_counts bytes (group c e k) h = expr_counts bytes e (each_front bytes (spell e) _ h.1)

body_counts : (bytes : List ℕ) (b : Body) → AllByRecursion (spelling.Stands bytes) (spell_body b) → BodyCounts b
body_counts bytes (within n i lo t hi) h = tt
body_counts bytes (aligned n c k r) h = tt
body_counts bytes (apart a c x b y) h = tt
body_counts bytes (at_most e c f) h = (expr_counts bytes e (each_front bytes (spell e) _ h), expr_counts bytes f (each_back bytes (spell e) _ h).1)

-- ---- a line

-- a tree whose words stand in a line of a text stands where the line does
line_stands : (ts : Texts) (t o : ℕ) (text bytes : List ℕ) (l : Line) → slice_get ts t ≡ Some text → LineAt text o bytes → AllByRecursion (spelling.Stands bytes) (spell_line l) → Stands ts t o l
line_stands ts t o text bytes blank is at h = tt
line_stands ts t o text bytes (cell c n) is at h = name-part ts t o text bytes n is at h.1.0
line_stands ts t o text bytes (premise c n) is at h = name-part ts t o text bytes n is at h.1.0
line_stands ts t o text bytes (constraint w b) is at h = body_counts bytes b (each_back bytes (spell_owner w) (spell_body b) h)

-- and so does the tree that the line is read as
pub read-stands : (ts : Texts) (t o : ℕ) (text bytes : List ℕ) (ws : List Spot) (l : Line) → slice_get ts t ≡ Some text → LineAt text o bytes → words_of bytes ≡ Ok ws → parse_line limit ws ≡ read l → Stands ts t o l
read-stands ts t o text bytes ws l is at worded parsed =
    line_stands ts t o text bytes l is at (recursion_from_All (spelling.Stands bytes) (spell_line l) (subst (All (spelling.Stands bytes)) (sym (reads.0 limit ws l parsed)) (words_stand bytes ws worded)))
