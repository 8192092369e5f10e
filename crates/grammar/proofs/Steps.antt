-- What one word does to the reading: the words that led there, and whether the nesting allowed matters.
use Rattle.std.proofs.Common.{◌≡◌, ℕ, ◌+◌, ◌≤◌, Bool, true, false, cond, ltb, List, [], ◌∷◌, ◌++◌, length, Some, None, Option, sym, refl, ap, ◌∙◌, append_assoc, append-nil, arith, ltb-false, ltb-true, lt-ltb}
use Rattle.words.specs.declared.Keyword.{Keyword}
use Rattle.words.specs.declared.Keyword.TheVariants.{Cell, Premise, In, To, Align, Apart}
use Rattle.words.specs.declared.Symbol.TheVariants.{Colon, Plus, Open, Close, AtMost, Equals}
use Rattle.words.specs.Words.{Word, name, number, reserved, symbol, Spot}
use Rattle.grammar.specs.Tree.{Name, Number, Expr, one, Term, named, counted, group, Owner, at, name_spot, number_spot, spell, spell_term, spell_owner, spell_line, deep, deep_term, deep_line}
use Rattle.grammar.specs.Parse.{Pending, Side, Stack, Rest, whole, name_next, number_next, to_next, State, body, head, rest, need, have, wrong, deeper, short, Step, on, off, join, needing, closing, crossing, had, declaring, starting, forming, owning, heading, resting, step}
use Rattle.grammar.specs.Reading.{open_of, close_of}

-- the words of what a term is to be added to
abbrev pub waits : Pending → List Spot
waits None = []
waits (Some p) = spell p.0 ++ (at p.1 (symbol Plus) ∷ [])

-- the words up to the innermost open parenthesis
abbrev pub outside : Stack → List Spot
outside [] = []
outside (q ∷ σ) = (outside σ ++ waits q.0) ++ (at q.1 (symbol Open) ∷ [])

-- the words before the side that is being read
abbrev pub lead : Option Owner → Side → List Spot
lead o None = spell_owner o
lead o (Some l) = spell_owner o ++ (spell l.0 ++ (at l.1 (symbol AtMost) ∷ []))

-- words after which a rest spells the line that it makes
abbrev pub Fits : Rest → List Spot → Type 0
Fits (whole l) us = spell_line l ≡ us
Fits (name_next f) us = (n : Name) → Fits (f n) (us ++ name_spot n ∷ [])
Fits (number_next f) us = (k : Number) → Fits (f k) (us ++ number_spot k ∷ [])
Fits (to_next f) us = (c : ℕ) → Fits (f c) (us ++ at c (reserved To) ∷ [])

-- words that lead to a state
abbrev pub Led : State → List Spot → Type 0
Led (body o) us = spell_owner o ≡ us
Led (head o n) us = spell_owner o ++ name_spot n ∷ [] ≡ us
Led (rest r) us = Fits r us
Led (need o s p σ) us = lead o s ++ (outside σ ++ waits p) ≡ us
Led (have o s e σ) us = lead o s ++ (outside σ ++ spell e) ≡ us

-- how many parentheses are open
abbrev pub depth : State → ℕ
depth (body o) = 0
depth (head o n) = 0
depth (rest r) = 0
depth (need o s p σ) = length σ
depth (have o s e σ) = length σ

-- so many parentheses stay within m with what a term is to be added to inside them
abbrev LowPending : ℕ → ℕ → Pending → Type 0
LowPending m n None = Unit {0}
LowPending m n (Some p) = deep p.0 + n ≤ m

-- the nesting of what is read before each open parenthesis stays within m
abbrev LowStack : ℕ → Stack → Type 0
LowStack m [] = Unit {0}
LowStack m (q ∷ σ) = LowPending m (length σ) q.0 × LowStack m σ

-- the nesting of the left side stays within m
abbrev LowSide : ℕ → Side → Type 0
LowSide m None = Unit {0}
LowSide m (Some l) = deep l.0 ≤ m

-- the line that a rest makes nests within m
abbrev LowRest : ℕ → Rest → Type 0
LowRest m (whole l) = deep_line l ≤ m
LowRest m (name_next f) = (n : Name) → LowRest m (f n)
LowRest m (number_next f) = (k : Number) → LowRest m (f k)
LowRest m (to_next f) = (c : ℕ) → LowRest m (f c)

-- the nesting of all that is read stays within m
abbrev pub Low : ℕ → State → Type 0
Low m (body o) = Unit {0}
Low m (head o n) = Unit {0}
Low m (rest r) = LowRest m r
Low m (need o s p σ) = LowSide m s × LowPending m (length σ) p × LowStack m σ × (length σ ≤ m)
Low m (have o s e σ) = LowSide m s × (deep e + length σ ≤ m) × LowStack m σ

-- and so does the count of open parentheses
pub low_depth : (m : ℕ) (st : State) → Low m st → depth st ≤ m
low_depth m (body o) l = omega arith
low_depth m (head o n) l = omega arith
low_depth m (rest r) l = omega arith
low_depth m (need o s p σ) l = l.3
low_depth m (have o s e σ) l = omega (arith, l.1)

-- a word that the reading goes on with, under each limit from m on
pub record Made (m : ℕ) (st : State) (w : Spot) (st' : State) : Type 0 where
  pub follows : (us : List Spot) → Led st us → Led st' (us ++ w ∷ [])
  pub stays : (lim : ℕ) → m ≤ lim → step lim st w ≡ on st'
  pub counts : open_of w.word + depth st ≡ close_of w.word + depth st'
  pub low : Low m st → Low m st'

-- a word that is wrong under each limit from m on
pub record Stuck (m : ℕ) (st : State) (w : Spot) (c : ℕ) : Type 0 where
  pub here : w.column ≡ c
  pub stays : (lim : ℕ) → m ≤ lim → step lim st w ≡ off (wrong c)

-- a parenthesis where m are open: it may stand there but for that
pub record Full (m : ℕ) (st : State) (w : Spot) (c : ℕ) : Type 0 where
  pub here : w ≡ at c (symbol Open)
  pub full : m ≤ depth st
  pub past : State
  pub follows : (us : List Spot) → Led st us → Led past (us ++ w ∷ [])

-- what is known of a step
abbrev pub Fact : ℕ → State → Spot → Step → Type 0
Fact m st w (on st') = Made m st w st'
Fact m st w (off (wrong c)) = Stuck m st w c
Fact m st w (off (deeper c)) = Full m st w c
Fact m st w (off short) = ⊥

-- what holds of a state holds of one that the same words lead to and that takes the word alike
alike : (m : ℕ) (st like : State) (w : Spot) (k : Step) → ((us : List Spot) → Led st us → Led like us) → ((lim : ℕ) → step lim st w ≡ step lim like w) → depth st ≡ depth like → (Low m st → Low m like) → Fact m like w k → Fact m st w k
alike m st like w (on st') led same d lows f =
    record {
      follows = λ us h. f.follows us (led us h);
      stays = λ lim le. same lim ∙ f.stays lim le;
      counts = rw d f.counts;
      low = λ l. f.low (lows l);
    }
alike m st like w (off (wrong c)) led same d lows f = record { here = f.here; stays = λ lim le. same lim ∙ f.stays lim le }
alike m st like w (off (deeper c)) led same d lows f = record { here = f.here; full = rw d f.full; past = f.past; follows = λ us h. f.follows us (led us h) }
alike m st like w (off short) led same d lows f = f

pub join-spells : (p : Pending) (t : Term) → spell (join p t) ≡ waits p ++ spell_term t
join-spells None t = refl
join-spells (Some p) t = sym (append_assoc (spell p.0) (at p.1 (symbol Plus) ∷ []) (spell_term t))

-- a term of one word
pub takes : (o : Option Owner) (s : Side) (p : Pending) (σ : Stack) (w : Spot) (t : Term) → spell_term t ≡ w ∷ [] → (us : List Spot) → Led (need o s p σ) us → Led (have o s (join p t) σ) (us ++ w ∷ [])
takes o s p σ w t e us h =
    let shape : lead o s ++ (outside σ ++ (waits p ++ w ∷ [])) ≡ (lead o s ++ (outside σ ++ waits p)) ++ w ∷ [] = simp append_assoc in
    ap (λ l. lead o s ++ (outside σ ++ l)) (join-spells p t ∙ ap (λ l. waits p ++ l) e)
    ∙ shape
    ∙ ap (λ l. l ++ w ∷ []) h

pub opens_one : (o : Option Owner) (s : Side) (p : Pending) (σ : Stack) (c : ℕ) (us : List Spot) → Led (need o s p σ) us → Led (need o s None ((p, c) ∷ σ)) (us ++ at c (symbol Open) ∷ [])
opens_one o s p σ c us h =
    let shape : lead o s ++ (outside ((p, c) ∷ σ) ++ []) ≡ (lead o s ++ (outside σ ++ waits p)) ++ at c (symbol Open) ∷ [] = simp (append_assoc, append-nil) in
    shape
    ∙ ap (λ l. l ++ at c (symbol Open) ∷ []) h

pub closes_one : (o : Option Owner) (s : Side) (e : Expr) (q : Pending × ℕ) (σ : Stack) (c : ℕ) (us : List Spot) → Led (have o s e (q ∷ σ)) us → Led (have o s (join q.0 (group q.1 e c)) σ) (us ++ at c (symbol Close) ∷ [])
closes_one o s e q σ c us h =
    let shape : lead o s ++ (outside σ ++ (waits q.0 ++ spell_term (group q.1 e c))) ≡ (lead o s ++ (outside (q ∷ σ) ++ spell e)) ++ at c (symbol Close) ∷ [] = simp append_assoc in
    ap (λ l. lead o s ++ (outside σ ++ l)) (join-spells q.0 (group q.1 e c))
    ∙ shape
    ∙ ap (λ l. l ++ at c (symbol Close) ∷ []) h

pub adds : (o : Option Owner) (s : Side) (e : Expr) (σ : Stack) (c : ℕ) (us : List Spot) → Led (have o s e σ) us → Led (need o s (Some (e, c)) σ) (us ++ at c (symbol Plus) ∷ [])
adds o s e σ c us h =
    let shape : lead o s ++ (outside σ ++ (spell e ++ at c (symbol Plus) ∷ [])) ≡ (lead o s ++ (outside σ ++ spell e)) ++ at c (symbol Plus) ∷ [] = simp append_assoc in
    shape
    ∙ ap (λ l. l ++ at c (symbol Plus) ∷ []) h

pub crosses : (o : Option Owner) (e : Expr) (c : ℕ) (us : List Spot) → Led (have o None e []) us → Led (need o (Some (e, c)) None []) (us ++ at c (symbol AtMost) ∷ [])
crosses o e c us h =
    let shape : (spell_owner o ++ (spell e ++ (at c (symbol AtMost) ∷ []))) ++ [] ≡ (spell_owner o ++ spell e) ++ at c (symbol AtMost) ∷ [] = simp (append_assoc, append-nil) in
    shape
    ∙ ap (λ l. l ++ at c (symbol AtMost) ∷ []) h

join-low : (m n : ℕ) (p : Pending) (t : Term) → LowPending m n p → deep_term t + n ≤ m → deep (join p t) + n ≤ m
join-low m n None t l h = h
join-low m n (Some p) t l h = omega (arith, l, h)

-- a parenthesis where a term is needed
parenthesis : (b : Bool) (m : ℕ) (o : Option Owner) (s : Side) (p : Pending) (σ : Stack) (c : ℕ) → ltb (length σ) m ≡ b → Fact m (need o s p σ) (at c (symbol Open)) (cond b (on (need o s None ((p, c) ∷ σ))) (off (deeper c)))
parenthesis true m o s p σ c e =
    let lt = ltb-true (length σ) m e in
    record {
      follows = opens_one o s p σ c;
      stays = λ lim le.
          let room : ltb (length σ) lim ≡ true = lt-ltb (length σ) lim (omega arith) in
          ap (λ b. cond b (on (need o s None ((p, c) ∷ σ))) (off (deeper c))) room;
      counts = omega arith;
      low = λ l. (l.0, tt, (l.1, l.2), omega arith);
    }
parenthesis false m o s p σ c e =
    record { here = refl; full = ltb-false (length σ) m e; past = need o s None ((p, c) ∷ σ); follows = opens_one o s p σ c }

needing-fact : (m : ℕ) (o : Option Owner) (s : Side) (p : Pending) (σ : Stack) (c : ℕ) (w : Word) → Fact m (need o s p σ) (at c w) (needing m o s p σ c w)
needing-fact m o s p σ c (name b) = record { follows = takes o s p σ (at c (name b)) (named (record { column = c; bytes = b })) refl; stays = λ lim le. refl; counts = refl; low = λ l. (l.0, join-low m (length σ) p (named (record { column = c; bytes = b })) l.1 (omega (arith, l.3)), l.2) }
needing-fact m o s p σ c (number n) = record { follows = takes o s p σ (at c (number n)) (counted (record { column = c; value = n })) refl; stays = λ lim le. refl; counts = refl; low = λ l. (l.0, join-low m (length σ) p (counted (record { column = c; value = n })) l.1 (omega (arith, l.3)), l.2) }
needing-fact m o s p σ c (reserved k) = record { here = refl; stays = λ lim le. refl }
needing-fact m o s p σ c (symbol Open) = parenthesis (ltb (length σ) m) m o s p σ c refl
needing-fact m o s p σ c (symbol Colon) = record { here = refl; stays = λ lim le. refl }
needing-fact m o s p σ c (symbol Plus) = record { here = refl; stays = λ lim le. refl }
needing-fact m o s p σ c (symbol Close) = record { here = refl; stays = λ lim le. refl }
needing-fact m o s p σ c (symbol AtMost) = record { here = refl; stays = λ lim le. refl }
needing-fact m o s p σ c (symbol Equals) = record { here = refl; stays = λ lim le. refl }

closing-fact : (m : ℕ) (o : Option Owner) (s : Side) (e : Expr) (σ : Stack) (c : ℕ) → Fact m (have o s e σ) (at c (symbol Close)) (closing o s e σ c)
closing-fact m o s e [] c = record { here = refl; stays = λ lim le. refl }
closing-fact m o s e (q ∷ σ) c = record { follows = closes_one o s e q σ c; stays = λ lim le. refl; counts = omega arith; low = λ l. (l.0, join-low m (length σ) q.0 (group q.1 e c) l.2.0 (omega (arith, l.1)), l.2.1) }

crossing-fact : (m : ℕ) (o : Option Owner) (s : Side) (e : Expr) (σ : Stack) (c : ℕ) → Fact m (have o s e σ) (at c (symbol AtMost)) (crossing o s e σ c)
crossing-fact m o (Some l) e σ c = record { here = refl; stays = λ lim le. refl }
crossing-fact m o None e [] c = record { follows = crosses o e c; stays = λ lim le. refl; counts = refl; low = λ l. (omega (arith, l.1), tt, tt, omega arith) }
crossing-fact m o None e (q ∷ σ) c = record { here = refl; stays = λ lim le. refl }

had-fact : (m : ℕ) (o : Option Owner) (s : Side) (e : Expr) (σ : Stack) (c : ℕ) (w : Word) → Fact m (have o s e σ) (at c w) (had o s e σ c w)
had-fact m o s e σ c (name b) = record { here = refl; stays = λ lim le. refl }
had-fact m o s e σ c (number n) = record { here = refl; stays = λ lim le. refl }
had-fact m o s e σ c (reserved k) = record { here = refl; stays = λ lim le. refl }
had-fact m o s e σ c (symbol Plus) = record { follows = adds o s e σ c; stays = λ lim le. refl; counts = refl; low = λ l. (l.0, l.1, l.2, omega (arith, l.1)) }
had-fact m o s e σ c (symbol Close) = closing-fact m o s e σ c
had-fact m o s e σ c (symbol AtMost) = crossing-fact m o s e σ c
had-fact m o s e σ c (symbol Colon) = record { here = refl; stays = λ lim le. refl }
had-fact m o s e σ c (symbol Open) = record { here = refl; stays = λ lim le. refl }
had-fact m o s e σ c (symbol Equals) = record { here = refl; stays = λ lim le. refl }

declaring-fact : (m : ℕ) (o : Option Owner) (c : ℕ) (k : Keyword) → Fact m (body o) (at c (reserved k)) (declaring o c k)
declaring-fact m (Some o) c k = record { here = refl; stays = λ lim le. refl }
declaring-fact m None c Cell = record { follows = λ us h n. ap (λ l. (l ++ at c (reserved Cell) ∷ []) ++ name_spot n ∷ []) h; stays = λ lim le. refl; counts = refl; low = λ l n. omega arith }
declaring-fact m None c Premise = record { follows = λ us h n. ap (λ l. (l ++ at c (reserved Premise) ∷ []) ++ name_spot n ∷ []) h; stays = λ lim le. refl; counts = refl; low = λ l n. omega arith }
declaring-fact m None c In = record { here = refl; stays = λ lim le. refl }
declaring-fact m None c To = record { here = refl; stays = λ lim le. refl }
declaring-fact m None c Align = record { here = refl; stays = λ lim le. refl }
declaring-fact m None c Apart = record { here = refl; stays = λ lim le. refl }

-- at its beginning a constraint takes numbers and symbols as where a term is needed
begun : (o : Option Owner) (us : List Spot) → Led (body o) us → Led (need o None None []) us
begun o us h = append-nil (spell_owner o) ∙ h

starting-fact : (m : ℕ) (o : Option Owner) (c : ℕ) (w : Word) → Fact m (body o) (at c w) (starting m o c w)
starting-fact m o c (name b) = record { follows = λ us h. ap (λ l. l ++ at c (name b) ∷ []) h; stays = λ lim le. refl; counts = refl; low = λ l. tt }
starting-fact m o c (number n) = alike m (body o) (need o None None []) (at c (number n)) (needing m o None None [] c (number n)) (begun o) (λ lim. refl) refl (λ l. (tt, tt, tt, omega arith)) (needing-fact m o None None [] c (number n))
starting-fact m o c (reserved k) = declaring-fact m o c k
starting-fact m o c (symbol s) = alike m (body o) (need o None None []) (at c (symbol s)) (needing m o None None [] c (symbol s)) (begun o) (λ lim. refl) refl (λ l. (tt, tt, tt, omega arith)) (needing-fact m o None None [] c (symbol s))

forming-fact : (m : ℕ) (o : Option Owner) (n : Name) (c : ℕ) (k : Keyword) → Fact m (head o n) (at c (reserved k)) (forming o n c k)
forming-fact m o n c In =
    record {
      follows = λ us h lo t hi.
          let shape : spell_owner o ++ (name_spot n ∷ at c (reserved In) ∷ number_spot lo ∷ at t (reserved To) ∷ number_spot hi ∷ []) ≡ ((((spell_owner o ++ name_spot n ∷ []) ++ at c (reserved In) ∷ []) ++ number_spot lo ∷ []) ++ at t (reserved To) ∷ []) ++ number_spot hi ∷ [] = simp append_assoc in
          shape
          ∙ ap (λ l. (((l ++ at c (reserved In) ∷ []) ++ number_spot lo ∷ []) ++ at t (reserved To) ∷ []) ++ number_spot hi ∷ []) h;
      stays = λ lim le. refl;
      counts = refl;
      low = λ l lo t hi. omega arith;
    }
forming-fact m o n c Align =
    record {
      follows = λ us h k r.
          let shape : spell_owner o ++ (name_spot n ∷ at c (reserved Align) ∷ number_spot k ∷ number_spot r ∷ []) ≡ (((spell_owner o ++ name_spot n ∷ []) ++ at c (reserved Align) ∷ []) ++ number_spot k ∷ []) ++ number_spot r ∷ [] = simp append_assoc in
          shape
          ∙ ap (λ l. ((l ++ at c (reserved Align) ∷ []) ++ number_spot k ∷ []) ++ number_spot r ∷ []) h;
      stays = λ lim le. refl;
      counts = refl;
      low = λ l k r. omega arith;
    }
forming-fact m o n c Apart =
    record {
      follows = λ us h d b e.
          let shape : spell_owner o ++ (name_spot n ∷ at c (reserved Apart) ∷ number_spot d ∷ name_spot b ∷ number_spot e ∷ []) ≡ ((((spell_owner o ++ name_spot n ∷ []) ++ at c (reserved Apart) ∷ []) ++ number_spot d ∷ []) ++ name_spot b ∷ []) ++ number_spot e ∷ [] = simp append_assoc in
          shape
          ∙ ap (λ l. (((l ++ at c (reserved Apart) ∷ []) ++ number_spot d ∷ []) ++ name_spot b ∷ []) ++ number_spot e ∷ []) h;
      stays = λ lim le. refl;
      counts = refl;
      low = λ l d b e. omega arith;
    }
forming-fact m o n c Cell = record { here = refl; stays = λ lim le. refl }
forming-fact m o n c Premise = record { here = refl; stays = λ lim le. refl }
forming-fact m o n c To = record { here = refl; stays = λ lim le. refl }

owning-fact : (m : ℕ) (o : Option Owner) (n : Name) (c : ℕ) → Fact m (head o n) (at c (symbol Colon)) (owning o n c)
owning-fact m None n c = record { follows = λ us h. ap (λ l. l ++ at c (symbol Colon) ∷ []) h; stays = λ lim le. refl; counts = refl; low = λ l. tt }
owning-fact m (Some o) n c = record { here = refl; stays = λ lim le. refl }

heading-fact : (m : ℕ) (o : Option Owner) (n : Name) (c : ℕ) (w : Word) → Fact m (head o n) (at c w) (heading o n c w)
heading-fact m o n c (name b) = record { here = refl; stays = λ lim le. refl }
heading-fact m o n c (number k) = record { here = refl; stays = λ lim le. refl }
heading-fact m o n c (reserved k) = forming-fact m o n c k
heading-fact m o n c (symbol Colon) = owning-fact m o n c
heading-fact m o n c (symbol Plus) = alike m (head o n) (have o None (one (named n)) []) (at c (symbol Plus)) (had o None (one (named n)) [] c (symbol Plus)) (λ us h. h) (λ lim. refl) refl (λ l. (tt, omega arith, tt)) (had-fact m o None (one (named n)) [] c (symbol Plus))
heading-fact m o n c (symbol AtMost) = alike m (head o n) (have o None (one (named n)) []) (at c (symbol AtMost)) (had o None (one (named n)) [] c (symbol AtMost)) (λ us h. h) (λ lim. refl) refl (λ l. (tt, omega arith, tt)) (had-fact m o None (one (named n)) [] c (symbol AtMost))
heading-fact m o n c (symbol Open) = record { here = refl; stays = λ lim le. refl }
heading-fact m o n c (symbol Close) = record { here = refl; stays = λ lim le. refl }
heading-fact m o n c (symbol Equals) = record { here = refl; stays = λ lim le. refl }

resting-fact : (m : ℕ) (r : Rest) (c : ℕ) (w : Word) → Fact m (rest r) (at c w) (resting r c w)
resting-fact m (name_next f) c (name b) = record { follows = λ us h. h (record { column = c; bytes = b }); stays = λ lim le. refl; counts = refl; low = λ l. l (record { column = c; bytes = b }) }
resting-fact m (number_next f) c (number n) = record { follows = λ us h. h (record { column = c; value = n }); stays = λ lim le. refl; counts = refl; low = λ l. l (record { column = c; value = n }) }
resting-fact m (to_next f) c (reserved To) = record { follows = λ us h. h c; stays = λ lim le. refl; counts = refl; low = λ l. l c }
resting-fact m (whole l) c w = record { here = refl; stays = λ lim le. refl }
resting-fact m (name_next f) c (number n) = record { here = refl; stays = λ lim le. refl }
resting-fact m (name_next f) c (reserved k) = record { here = refl; stays = λ lim le. refl }
resting-fact m (name_next f) c (symbol s) = record { here = refl; stays = λ lim le. refl }
resting-fact m (number_next f) c (name b) = record { here = refl; stays = λ lim le. refl }
resting-fact m (number_next f) c (reserved k) = record { here = refl; stays = λ lim le. refl }
resting-fact m (number_next f) c (symbol s) = record { here = refl; stays = λ lim le. refl }
resting-fact m (to_next f) c (name b) = record { here = refl; stays = λ lim le. refl }
resting-fact m (to_next f) c (number n) = record { here = refl; stays = λ lim le. refl }
resting-fact m (to_next f) c (reserved Cell) = record { here = refl; stays = λ lim le. refl }
resting-fact m (to_next f) c (reserved Premise) = record { here = refl; stays = λ lim le. refl }
resting-fact m (to_next f) c (reserved In) = record { here = refl; stays = λ lim le. refl }
resting-fact m (to_next f) c (reserved Align) = record { here = refl; stays = λ lim le. refl }
resting-fact m (to_next f) c (reserved Apart) = record { here = refl; stays = λ lim le. refl }
resting-fact m (to_next f) c (symbol s) = record { here = refl; stays = λ lim le. refl }

-- What is known of each step.
pub fact : (m : ℕ) (st : State) (w : Spot) → Fact m st w (step m st w)
fact m (body o) w = starting-fact m o w.column w.word
fact m (head o n) w = heading-fact m o n w.column w.word
fact m (rest r) w = resting-fact m r w.column w.word
fact m (need o s p σ) w = needing-fact m o s p σ w.column w.word
fact m (have o s e σ) w = had-fact m o s e σ w.column w.word
