-- The words of a line read from the left: which word may follow, and the tree that they spell.
use Rattle.std.specs.Prelude.{ℕ, cond, List, [], ◌∷◌, length, Some, None, Option, nat_lt}
use Rattle.words.specs.declared.Keyword.{Keyword}
use Rattle.words.specs.declared.Keyword.TheVariants.{Cell, Premise, In, To, Align, Apart}
use Rattle.words.specs.declared.Symbol.TheVariants.{Colon, Plus, Open, Close, AtMost, Equals}
use Rattle.words.specs.Words.{Word, name, number, reserved, symbol, Spot}
use Rattle.grammar.specs.Tree.{Name, Number, Expr, one, plus, Term, named, counted, group, Owner, within, aligned, apart, at_most, Line, blank, cell, premise, constraint}

-- What a term is to be added to, and the column of the `+`.
abbrev pub Pending : Type 0
Pending = Option (Expr × ℕ)

-- The left side and the column of `<=`, once that is read.
abbrev pub Side : Type 0
Side = Option (Expr × ℕ)

-- The open parentheses, the innermost first: what waits outside each, and its column.
abbrev pub Stack : Type 0
Stack = List (Pending × ℕ)

-- What is left of a form of fixed shape: nothing, or a name, a number or the word `to`, and then the rest.
pub data Rest : Type 0 where
  whole : Line → Rest
  name_next : (Name → Rest) → Rest
  number_next : (Number → Rest) → Rest
  to_next : (ℕ → Rest) → Rest

-- Where the reading stands.
pub data State : Type 0 where
  -- before the first word of the line or, after a premise and its `:`, of the constraint
  body : Option Owner → State
  -- after a name that begins a constraint, or is the premise before a `:`
  head : Option Owner → Name → State
  -- within a form of fixed shape
  rest : Rest → State
  -- where a term is needed
  need : Option Owner → Side → Pending → Stack → State
  -- after an expression
  have : Option Owner → Side → Expr → Stack → State

-- Why words are no line: a word that no line can have there, a parenthesis too deep, or too few words.
pub data Refusal : Type 0 where
  wrong : ℕ → Refusal
  deeper : ℕ → Refusal
  short : Refusal

-- What words are read as.
pub data Outcome : Type 0 where
  read : Line → Outcome
  refused : Refusal → Outcome

-- What one word does: the reading goes on, or ends in a refusal.
pub data Step : Type 0 where
  on : State → Step
  off : Refusal → Step

-- A term alone, or added to what it waits for.
abbrev pub join : Pending → Term → Expr
join None t = one t
join (Some p) t = plus p.0 p.1 t

-- The word at column c where a term is needed: a parenthesis may be opened while fewer than lim are open.
abbrev pub needing : ℕ → Option Owner → Side → Pending → Stack → ℕ → Word → Step
needing lim o s p σ c (name b) = on (have o s (join p (named (record { column = c; bytes = b }))) σ)
needing lim o s p σ c (number n) = on (have o s (join p (counted (record { column = c; value = n }))) σ)
needing lim o s p σ c (reserved k) = off (wrong c)
needing lim o s p σ c (symbol Open) = cond (nat_lt (length σ) lim) (on (need o s None ((p, c) ∷ σ))) (off (deeper c))
needing lim o s p σ c (symbol Colon) = off (wrong c)
needing lim o s p σ c (symbol Plus) = off (wrong c)
needing lim o s p σ c (symbol Close) = off (wrong c)
needing lim o s p σ c (symbol AtMost) = off (wrong c)
needing lim o s p σ c (symbol Equals) = off (wrong c)

-- A `)` at column c after an expression closes the innermost open parenthesis.
abbrev pub closing : Option Owner → Side → Expr → Stack → ℕ → Step
closing o s e [] c = off (wrong c)
closing o s e (q ∷ σ) c = on (have o s (join q.0 (group q.1 e c)) σ)

-- A `<=` at column c after an expression: the first of the line, with no parenthesis open.
abbrev pub crossing : Option Owner → Side → Expr → Stack → ℕ → Step
crossing o (Some l) e σ c = off (wrong c)
crossing o None e [] c = on (need o (Some (e, c)) None [])
crossing o None e (q ∷ σ) c = off (wrong c)

-- The word at column c after an expression.
abbrev pub had : Option Owner → Side → Expr → Stack → ℕ → Word → Step
had o s e σ c (name b) = off (wrong c)
had o s e σ c (number n) = off (wrong c)
had o s e σ c (reserved k) = off (wrong c)
had o s e σ c (symbol Plus) = on (need o s (Some (e, c)) σ)
had o s e σ c (symbol Close) = closing o s e σ c
had o s e σ c (symbol AtMost) = crossing o s e σ c
had o s e σ c (symbol Colon) = off (wrong c)
had o s e σ c (symbol Open) = off (wrong c)
had o s e σ c (symbol Equals) = off (wrong c)

-- A reserved word at column c before the first word of a line or of an owned constraint: only a line declares.
abbrev pub declaring : Option Owner → ℕ → Keyword → Step
declaring (Some o) c k = off (wrong c)
declaring None c Cell = on (rest (name_next (λ n. whole (cell c n))))
declaring None c Premise = on (rest (name_next (λ n. whole (premise c n))))
declaring None c In = off (wrong c)
declaring None c To = off (wrong c)
declaring None c Align = off (wrong c)
declaring None c Apart = off (wrong c)

-- The first word, at column c, of a line or of an owned constraint.
abbrev pub starting : ℕ → Option Owner → ℕ → Word → Step
starting lim o c (name b) = on (head o (record { column = c; bytes = b }))
starting lim o c (number n) = needing lim o None None [] c (number n)
starting lim o c (reserved k) = declaring o c k
starting lim o c (symbol s) = needing lim o None None [] c (symbol s)

-- The rest of `N in LO to HI` after `in`.
abbrev pub after_in : Option Owner → Name → ℕ → Rest
after_in o n c = number_next (λ lo. to_next (λ t. number_next (λ hi. whole (constraint o (within n c lo t hi)))))

-- The rest of `N align K R` after `align`.
abbrev pub after_align : Option Owner → Name → ℕ → Rest
after_align o n c = number_next (λ k. number_next (λ r. whole (constraint o (aligned n c k r))))

-- The rest of `A apart D B E` after `apart`.
abbrev pub after_apart : Option Owner → Name → ℕ → Rest
after_apart o a c = number_next (λ d. name_next (λ b. number_next (λ e. whole (constraint o (apart a c d b e)))))

-- A reserved word at column c after the name that begins a constraint.
abbrev pub forming : Option Owner → Name → ℕ → Keyword → Step
forming o n c In = on (rest (after_in o n c))
forming o n c Align = on (rest (after_align o n c))
forming o n c Apart = on (rest (after_apart o n c))
forming o n c Cell = off (wrong c)
forming o n c Premise = off (wrong c)
forming o n c To = off (wrong c)

-- A `:` at column c after the first name of a line makes that name the premise of what follows.
abbrev pub owning : Option Owner → Name → ℕ → Step
owning None n c = on (body (Some (record { premise = n; colon = c })))
owning (Some o) n c = off (wrong c)

-- The word at column c after the name that begins a constraint, or after the line's first name.
abbrev pub heading : Option Owner → Name → ℕ → Word → Step
heading o n c (name b) = off (wrong c)
heading o n c (number k) = off (wrong c)
heading o n c (reserved k) = forming o n c k
heading o n c (symbol Colon) = owning o n c
heading o n c (symbol Plus) = had o None (one (named n)) [] c (symbol Plus)
heading o n c (symbol AtMost) = had o None (one (named n)) [] c (symbol AtMost)
heading o n c (symbol Open) = off (wrong c)
heading o n c (symbol Close) = off (wrong c)
heading o n c (symbol Equals) = off (wrong c)

-- The word at column c within a form of fixed shape.
abbrev pub resting : Rest → ℕ → Word → Step
resting (name_next f) c (name b) = on (rest (f (record { column = c; bytes = b })))
resting (number_next f) c (number n) = on (rest (f (record { column = c; value = n })))
resting (to_next f) c (reserved To) = on (rest (f c))
resting (whole l) c w = off (wrong c)
resting (name_next f) c (number n) = off (wrong c)
resting (name_next f) c (reserved k) = off (wrong c)
resting (name_next f) c (symbol s) = off (wrong c)
resting (number_next f) c (name b) = off (wrong c)
resting (number_next f) c (reserved k) = off (wrong c)
resting (number_next f) c (symbol s) = off (wrong c)
resting (to_next f) c (name b) = off (wrong c)
resting (to_next f) c (number n) = off (wrong c)
resting (to_next f) c (reserved Cell) = off (wrong c)
resting (to_next f) c (reserved Premise) = off (wrong c)
resting (to_next f) c (reserved In) = off (wrong c)
resting (to_next f) c (reserved Align) = off (wrong c)
resting (to_next f) c (reserved Apart) = off (wrong c)
resting (to_next f) c (symbol s) = off (wrong c)

-- What the next word does, where at most lim parentheses may be open.
abbrev pub step : ℕ → State → Spot → Step
step lim (body o) w = starting lim o w.column w.word
step lim (head o n) w = heading o n w.column w.word
step lim (rest r) w = resting r w.column w.word
step lim (need o s p σ) w = needing lim o s p σ w.column w.word
step lim (have o s e σ) w = had o s e σ w.column w.word

-- What the line is where no word follows.
abbrev pub ending : State → Outcome
ending (body None) = read blank
ending (body (Some o)) = refused short
ending (head o n) = refused short
ending (rest (whole l)) = read l
ending (rest (name_next f)) = refused short
ending (rest (number_next f)) = refused short
ending (rest (to_next f)) = refused short
ending (need o s p σ) = refused short
ending (have o None e σ) = refused short
ending (have o (Some l) e []) = read (constraint o (at_most l.0 l.1 e))
ending (have o (Some l) e (q ∷ σ)) = refused short

-- How the reading goes on after a step.
abbrev pub went : Step → (State → Outcome) → Outcome
went (on st) more = more st
went (off r) more = refused r

-- What the words that are left make of the line.
abbrev pub parse : ℕ → State → List Spot → Outcome
parse lim st [] = ending st
parse lim st (w ∷ ws) = went (step lim st w) (λ st. parse lim st ws)

-- What the words of a line are read as, where at most lim parentheses may be open.
abbrev pub parse_line : ℕ → List Spot → Outcome
parse_line lim ws = parse lim (body None) ws
