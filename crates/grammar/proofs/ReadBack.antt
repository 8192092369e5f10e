-- The words that spell a tree are read as that tree.
use Rattle.std.proofs.Common.{◌≡◌, ℕ, ◌+◌, ◌≤◌, max, true, cond, ltb, List, [], ◌∷◌, ◌++◌, length, Some, None, Option, sym, refl, ap, ◌∙◌, append_assoc, append-nil, arith, lt-ltb}
use native.Mathlib.Nat.{le-max_left, le-max_right}
use Rattle.words.specs.declared.Symbol.TheVariants.{Plus, Close, AtMost}
use Rattle.words.specs.Words.{symbol, Spot}
use Rattle.grammar.specs.Tree.{Expr, one, plus, Term, named, counted, group, Owner, Body, within, aligned, apart, at_most, Line, blank, cell, premise, constraint, at, spell, spell_term, spell_owner, spell_body, spell_line, deep, deep_term, deep_body, deep_line}
use Rattle.grammar.specs.Parse.{Pending, Side, Stack, body, need, have, on, off, deeper, read, join, went, parse, parse_line}
use Rattle.grammar.specs.Reading.{OneReading}

-- where a term is needed, an expression or a term is read whole
mutual
  pub reads_expr : (e : Expr) (lim : ℕ) (o : Option Owner) (s : Side) (σ : Stack) (more : List Spot) → length σ + deep e ≤ lim → parse lim (need o s None σ) (spell e ++ more) ≡ parse lim (have o s e σ) more
  reads_expr (one t) lim o s σ more h = reads_term t lim o s None σ more h
  reads_expr (plus e c t) lim o s σ more h =
      let le = le-max_left (deep e) (deep_term t) in
      let re = le-max_right (deep e) (deep_term t) in
      ap (parse lim (need o s None σ)) (append_assoc (spell e) (at c (symbol Plus) ∷ spell_term t) more)
      ∙ reads_expr e lim o s σ (at c (symbol Plus) ∷ (spell_term t ++ more)) (omega arith)
      ∙ reads_term t lim o s (Some (e, c)) σ more (omega arith)

  pub reads_term : (t : Term) (lim : ℕ) (o : Option Owner) (s : Side) (p : Pending) (σ : Stack) (more : List Spot) → length σ + deep_term t ≤ lim → parse lim (need o s p σ) (spell_term t ++ more) ≡ parse lim (have o s (join p t) σ) more
  reads_term (named n) lim o s p σ more h = refl
  reads_term (counted k) lim o s p σ more h = refl
  reads_term (group c e k) lim o s p σ more h =
      let room : ltb (length σ) lim ≡ true = lt-ltb (length σ) lim (omega arith) in
      ap (λ b. went (cond b (on (need o s None ((p, c) ∷ σ))) (off (deeper c))) (λ st. parse lim st ((spell e ++ (at k (symbol Close) ∷ [])) ++ more))) room
      ∙ ap (parse lim (need o s None ((p, c) ∷ σ))) (append_assoc (spell e) (at k (symbol Close) ∷ []) more)
      ∙ reads_expr e lim o s ((p, c) ∷ σ) (at k (symbol Close) ∷ more) (omega arith)

-- at the beginning of a constraint, an expression before `+` is read whole
before-plus : (e : Expr) (lim : ℕ) (o : Option Owner) (c : ℕ) (more : List Spot) → deep e ≤ lim → parse lim (body o) (spell e ++ (at c (symbol Plus) ∷ more)) ≡ parse lim (have o None e []) (at c (symbol Plus) ∷ more)
before-plus (one (named n)) lim o c more h = refl
before-plus (one (counted k)) lim o c more h = refl
before-plus (one (group a e k)) lim o c more h = reads_term (group a e k) lim o None None [] (at c (symbol Plus) ∷ more) (omega arith)
before-plus (plus e a t) lim o c more h =
    let le = le-max_left (deep e) (deep_term t) in
    let re = le-max_right (deep e) (deep_term t) in
    ap (parse lim (body o)) (append_assoc (spell e) (at a (symbol Plus) ∷ spell_term t) (at c (symbol Plus) ∷ more))
    ∙ before-plus e lim o a (spell_term t ++ (at c (symbol Plus) ∷ more)) (omega arith)
    ∙ reads_term t lim o None (Some (e, a)) [] (at c (symbol Plus) ∷ more) (omega arith)

-- and so is one before `<=`
before_most : (e : Expr) (lim : ℕ) (o : Option Owner) (c : ℕ) (more : List Spot) → deep e ≤ lim → parse lim (body o) (spell e ++ (at c (symbol AtMost) ∷ more)) ≡ parse lim (have o None e []) (at c (symbol AtMost) ∷ more)
before_most (one (named n)) lim o c more h = refl
before_most (one (counted k)) lim o c more h = refl
before_most (one (group a e k)) lim o c more h = reads_term (group a e k) lim o None None [] (at c (symbol AtMost) ∷ more) (omega arith)
before_most (plus e a t) lim o c more h =
    let le = le-max_left (deep e) (deep_term t) in
    let re = le-max_right (deep e) (deep_term t) in
    ap (parse lim (body o)) (append_assoc (spell e) (at a (symbol Plus) ∷ spell_term t) (at c (symbol AtMost) ∷ more))
    ∙ before-plus e lim o a (spell_term t ++ (at c (symbol AtMost) ∷ more)) (omega arith)
    ∙ reads_term t lim o None (Some (e, a)) [] (at c (symbol AtMost) ∷ more) (omega arith)

reads-body : (b : Body) (lim : ℕ) (o : Option Owner) → deep_body b ≤ lim → parse lim (body o) (spell_body b) ≡ read (constraint o b)
reads-body (within n i lo t hi) lim o h = refl
reads-body (aligned n c k r) lim o h = refl
reads-body (apart a c d b e) lim o h = refl
reads-body (at_most e c f) lim o h =
    let le = le-max_left (deep e) (deep f) in
    let re = le-max_right (deep e) (deep f) in
    before_most e lim o c (spell f) (omega arith)
    ∙ ap (parse lim (need o (Some (e, c)) None [])) (sym (append-nil (spell f)))
    ∙ reads_expr f lim o (Some (e, c)) [] [] (omega arith)

reads_owner : (o : Option Owner) (lim : ℕ) (more : List Spot) → parse lim (body None) (spell_owner o ++ more) ≡ parse lim (body o) more
reads_owner None lim more = refl
reads_owner (Some o) lim more = refl

-- Each tree whose parentheses nest at most lim deep is the reading of its words.
pub complete : (lim : ℕ) (l : Line) → deep_line l ≤ lim → parse_line lim (spell_line l) ≡ read l
complete lim blank h = refl
complete lim (cell c n) h = refl
complete lim (premise c n) h = refl
complete lim (constraint o b) h = reads_owner o lim (spell_body b) ∙ reads-body b lim o h

pub same_line : (l m : Line) → read l ≡ read m → l ≡ m
same_line l m e = cc

pub one_reading : OneReading
one_reading l m e =
    let lim = max (deep_line l) (deep_line m) in
    same_line l m (sym (complete lim l (le-max_left _ _)) ∙ ap (parse_line lim) e ∙ complete lim m (le-max_right _ _))
