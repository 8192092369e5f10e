-- Words that lead to a state begin some line.
use Rattle.std.proofs.Common.{◌≡◌, List, [], ◌∷◌, ◌++◌, Some, None, Option, sym, refl, ap, ◌∙◌, append_assoc, append-nil}
use Rattle.words.specs.declared.Keyword.TheVariants.{To}
use Rattle.words.specs.declared.Symbol.TheVariants.{Close, AtMost}
use Rattle.words.specs.Words.{reserved, symbol, Spot}
use Rattle.grammar.specs.Tree.{Name, Number, Expr, one, named, counted, group, Owner, at_most, constraint, at, name_spot, number_spot, spell, spell_owner}
use Rattle.grammar.specs.Parse.{Side, Stack, Rest, whole, name_next, number_next, to_next, State, body, head, rest, need, have, join}
use Rattle.grammar.specs.Reading.{Viable}
use Rattle.grammar.proofs.Steps.{Fits, Led, takes, closes_one}

-- a name and a number to end a line with
abbrev some-name : Name
some-name = record { column = 0; bytes = 97 ∷ [] }

abbrev nought : Number
nought = record { column = 0; value = 0 }

-- words that begin a line with one more word begin it
one_more : (us : List Spot) (w : Spot) → Viable (us ++ w ∷ []) → Viable us
one_more us w v = (w ∷ v.0, (v.1.0, v.1.1 ∙ append_assoc us (w ∷ []) v.0))

fills : (r : Rest) (us : List Spot) → Fits r us → Viable us
fills (whole l) us h = ([], (l, h ∙ sym (append-nil us)))
fills (name_next f) us h = one_more us (name_spot some-name) (fills (f some-name) (us ++ name_spot some-name ∷ []) (h some-name))
fills (number_next f) us h = one_more us (number_spot nought) (fills (f nought) (us ++ number_spot nought ∷ []) (h nought))
fills (to_next f) us h = one_more us (at 0 (reserved To)) (fills (f 0) (us ++ at 0 (reserved To) ∷ []) (h 0))

-- `<= 0`
abbrev last : List Spot
last = at 0 (symbol AtMost) ∷ number_spot nought ∷ []

from-have : (σ : Stack) (o : Option Owner) (s : Side) (e : Expr) (us : List Spot) → Led (have o s e σ) us → Viable us
from-have [] o None e us h = (
  last,
  (
    constraint o (at_most e 0 (one (counted nought))),
    let shape : spell_owner o ++ (spell e ++ last) ≡ (spell_owner o ++ spell e) ++ last = simp append_assoc in
        shape ∙ ap (λ l. l ++ last) h,
  ),
)
from-have [] o (Some k) e us h = (
  [],
  (
    constraint o (at_most k.0 k.1 e),
    let shape : spell_owner o ++ (spell k.0 ++ (at k.1 (symbol AtMost) ∷ spell e)) ≡ (spell_owner o ++ (spell k.0 ++ (at k.1 (symbol AtMost) ∷ []))) ++ spell e = simp append_assoc in
        shape
        ∙ h ∙ sym (append-nil us),
  ),
)
from-have (q ∷ σ) o s e us h =
    one_more us (at 0 (symbol Close))
    (from-have σ o s (join q.0 (group q.1 e 0)) (us ++ at 0 (symbol Close) ∷ []) (closes_one o s e q σ 0 us h))

-- Words that lead to a state begin some line.
pub viable : (st : State) (us : List Spot) → Led st us → Viable us
viable (body o) us h =
    (number_spot nought ∷ last, (constraint o (at_most (one (counted nought)) 0 (one (counted nought))), ap (λ l. l ++ number_spot nought ∷ last) h))
viable (head o n) us h = from-have [] o None (one (named n)) us h
viable (rest r) us h = fills r us h
viable (need o s p σ) us h =
    one_more us (number_spot nought)
    (from-have σ o s (join p (counted nought)) (us ++ number_spot nought ∷ []) (takes o s p σ (number_spot nought) (counted nought) refl us h))
viable (have o s e σ) us h = from-have σ o s e us h
