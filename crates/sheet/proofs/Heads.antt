-- A constraint as a whole against the reading of the whole line.
use Rattle.std.proofs.Common.{◌≡◌, ℕ, Bool, true, false, not, ◌<◌, List, [], ◌∷◌, length, Some, None, Ok, Err, Option, Result, refl, ap, ◌∙◌, arith}
use Rattle.words.specs.declared.Keyword.{Keyword}
use Rattle.words.specs.declared.Keyword.TheVariants.{Cell, Premise, In, To, Align, Apart}
use Rattle.words.specs.declared.Placed.{Placed}
use Rattle.words.specs.declared.Symbol.TheVariants.{Colon, Plus, Open, Close, AtMost, Equals}
use Rattle.words.specs.declared.Token.{Token}
use Rattle.words.specs.declared.Token.TheVariants as token
use Rattle.words.specs.Words.{Word, name, number, reserved, symbol, Spot, meant}
use Rattle.grammar.specs.Tree.{Name, one, named, Owner, at}
use Rattle.grammar.specs.Parse.{Rest, rest, body, head, need, have, off, wrong, parse, went, heading, declaring, had}
use Rattle.sheet.specs.declared.reading.Stop.{Stop}
use Rattle.sheet.specs.Progress.{Progress}
use Rattle.sheet.specs.Reads.{limit, spots, marks, begins}
use Rattle.sheet.specs.Forms.{FormTells, BoundTells, BodyTells, Plain, declares}
use Rattle.sheet.proofs.Steps.{says}

-- a reserved word comes second, after a name
abbrev pub is_reserved : Word → Bool
is_reserved (name b) = false
is_reserved (number n) = false
is_reserved (reserved k) = true
is_reserved (symbol s) = false

abbrev pub reserved_second : List Spot → Bool
reserved_second [] = false
reserved_second (w ∷ ws) = is_reserved w.word

abbrev pub headed_by : Word → List Spot → Bool
headed_by (name b) ws = reserved_second ws
headed_by (number n) ws = false
headed_by (reserved k) ws = false
headed_by (symbol s) ws = false

-- a constraint that begins with a name and a reserved word
abbrev pub headed : List Spot → Bool
headed [] = false
headed (w ∷ ws) = headed_by w.word ws

-- after a first name: what follows is no `:` where no premise was read, and no reserved word
heading_is : (o : Option Owner) (n : Name) (c : ℕ) (w : Word) (ws : List Spot) → (o ≡ None → marks Colon w ≡ false) → is_reserved w ≡ false → heading o n c w ≡ had o None (one (named n)) [] c w
heading_is o n c (name b) ws colon key = refl
heading_is o n c (number k) ws colon key = refl
heading_is o n c (reserved k) ws colon key = cc
heading_is None n c (symbol Colon) ws colon key = let clash = colon refl in cc
heading_is (Some p) n c (symbol Colon) ws colon key = refl
heading_is o n c (symbol Plus) ws colon key = refl
heading_is o n c (symbol Open) ws colon key = refl
heading_is o n c (symbol Close) ws colon key = refl
heading_is o n c (symbol AtMost) ws colon key = refl
heading_is o n c (symbol Equals) ws colon key = refl

head-have : (o : Option Owner) (n : Name) (ws : List Spot) → (o ≡ None → begins Colon ws ≡ false) → reserved_second ws ≡ false → parse limit (head o n) ws ≡ parse limit (have o None (one (named n)) []) ws
head-have o n [] colon key = refl
head-have o n (w ∷ ws) colon key = ap (λ s. went s (λ st. parse limit st ws)) (heading_is o n w.column w.word ws colon key)

no_declaration : (k : Keyword) (c : ℕ) → not (declares k) ≡ true → declaring None c k ≡ off (wrong c)
no_declaration Cell c h = cc
no_declaration Premise c h = cc
no_declaration In c h = refl
no_declaration To c h = refl
no_declaration Align c h = refl
no_declaration Apart c h = refl

not-true : (b : Bool) → not b ≡ true → b ≡ false
not-true true h = cc
not-true false h = refl

none_some : {A : Type 0} (x : A) → Some x ≡ None → ⊥
none_some x e = cc

word-need : (o : Option Owner) (c : ℕ) (w : Word) (ws : List Spot) → Plain o (at c w ∷ ws) → headed_by w ws ≡ false → parse limit (body o) (at c w ∷ ws) ≡ parse limit (need o None None []) (at c w ∷ ws)
word-need None c (name b) ws free key = head-have None (record { column = c; bytes = b }) ws (λ _. not-true (begins Colon ws) free) key
word-need (Some o) c (name b) ws free key = head-have (Some o) (record { column = c; bytes = b }) ws (λ e. absurd (none_some o e)) key
word-need o c (number n) ws free key = refl
word-need None c (reserved k) ws free key = ap (λ s. went s (λ st. parse limit st ws)) (no_declaration k c free)
word-need (Some o) c (reserved k) ws free key = refl
word-need o c (symbol s) ws free key = refl

-- words that begin with no name and reserved word are read as two expressions
as_need : (o : Option Owner) (ws : List Spot) → Plain o ws → headed ws ≡ false → parse limit (body o) ws ≡ parse limit (need o None None []) ws
as_need None [] free key = cc
as_need (Some o) [] free key = refl
as_need o (w ∷ ws) free key = word-need o w.column w.word ws (plain_eta o w ws free) key
  where
    plain_eta : (o : Option Owner) (w : Spot) (ws : List Spot) → Plain o (w ∷ ws) → Plain o (at w.column w.word ∷ ws)
    plain_eta None w ws h = h
    plain_eta (Some o) w ws h = h

-- fewer than two words begin with no name and reserved word
pub headless-short : (ws : List Placed) → length ws < 2 → headed (spots ws) ≡ false
headless-short [] h = refl
headless-short (w ∷ []) h = alone w.token
  where
    alone : (t : Token) → headed_by (meant t) [] ≡ false
    alone (token.Name b) = refl
    alone (token.Number n) = refl
    alone (token.Reserved k) = refl
    alone (token.Symbol s) = refl
headless-short (w ∷ v ∷ ws) h = absurd (omega arith)

pub body-bound : (r : Result (Unit {0}) Stop) (q : Option ℕ) (p e : Progress) (ws : List Placed) → headed (spots ws) ≡ false → BoundTells r q p ws e → BodyTells r q p ws e
body-bound (Ok u) q p e ws key t = λ o free. let w = t o in (w.0, (as_need o (spots ws) free key ∙ w.1.0, w.1.1))
body-bound (Err r) q p e ws key t = λ o free. says r (as_need o (spots ws) free key) (t o)

-- a constraint of fixed shape
pub body-form : (after : Option Owner → Name → ℕ → Rest) (r : Result (Unit {0}) Stop) (q : Option ℕ) (n : Name) (c : ℕ) (p e : Progress) (ws vs : List Placed) → ((o : Option Owner) → parse limit (body o) (spots ws) ≡ parse limit (rest (after o n c)) (spots vs)) → FormTells after r q n p vs e → BodyTells r q p ws e
body-form after (Ok u) q n c p e ws vs is t = λ o _. let w = t o c in (w.0, (is o ∙ w.1.0, w.1.1))
body-form after (Err r) q n c p e ws vs is t = λ o _. says r (is o) (t o c)
