-- The reading of words is a tree that spells them and nests no deeper than it may.
use Rattle.std.proofs.Common.{◌≡◌, ℕ, ◌≤◌, List, [], ◌∷◌, ◌++◌, Some, None, sym, refl, ap, ◌∙◌, subst, append_assoc, append-nil, arith}
use Rattle.words.specs.declared.Symbol.TheVariants.{AtMost}
use Rattle.words.specs.Words.{symbol, Spot}
use Rattle.grammar.specs.Tree.{Line, at, spell, spell_owner, spell_line, deep_line}
use Rattle.grammar.specs.Parse.{whole, name_next, number_next, to_next, State, body, head, rest, need, have, Refusal, read, refused, Step, on, off, step, ending, went, parse}
use Rattle.grammar.specs.Reading.{Reads, Nests}
use Rattle.grammar.proofs.ReadBack.{same_line, complete}
use Rattle.grammar.proofs.Steps.{Led, Low, Fact, fact}

pub not-read : {r : Refusal} {l : Line} → refused r ≡ read l → ⊥
not-read e = cc

-- a line that ends in a state is spelled by the words that led there
ends : (st : State) (us : List Spot) (l : Line) → Led st us → ending st ≡ read l → spell_line l ≡ us
ends (body None) us l h e = sym (ap spell_line (same_line _ _ e)) ∙ h
ends (body (Some o)) us l h e = absurd (not-read e)
ends (head o n) us l h e = absurd (not-read e)
ends (rest (whole k)) us l h e = sym (ap spell_line (same_line _ _ e)) ∙ h
ends (rest (name_next f)) us l h e = absurd (not-read e)
ends (rest (number_next f)) us l h e = absurd (not-read e)
ends (rest (to_next f)) us l h e = absurd (not-read e)
ends (need o s p σ) us l h e = absurd (not-read e)
ends (have o None x σ) us l h e = absurd (not-read e)
ends (have o (Some k) x []) us l h e =
    let shape : spell_owner o ++ (spell k.0 ++ (at k.1 (symbol AtMost) ∷ spell x)) ≡ (spell_owner o ++ (spell k.0 ++ (at k.1 (symbol AtMost) ∷ []))) ++ spell x = simp append_assoc in
    sym (ap spell_line (same_line _ _ e))
    ∙ shape
    ∙ h
ends (have o (Some k) x (q ∷ σ)) us l h e = absurd (not-read e)

-- and so is one that more words lead on to
sound : (lim : ℕ) (ws : List Spot) (st : State) (us : List Spot) (l : Line) → Led st us → parse lim st ws ≡ read l → spell_line l ≡ us ++ ws
sound lim [] st us l h e = ends st us l h e ∙ sym (append-nil us)
sound lim (w ∷ ws) st us l h e = go (step lim st w) (fact lim st w) (λ st' vs h' e'. sound lim ws st' vs l h' e') e
  where
    go : (k : Step) → Fact lim st w k → ((st' : State) (vs : List Spot) → Led st' vs → parse lim st' ws ≡ read l → spell_line l ≡ vs ++ ws) → went k (λ st. parse lim st ws) ≡ read l → spell_line l ≡ us ++ w ∷ ws
    go (on st') f ih e = ih st' (us ++ w ∷ []) (f.follows us h) e ∙ append_assoc us (w ∷ []) ws
    go (off r) f ih e = absurd (not-read e)

pub reads : Reads
reads = (λ lim ws l e. sound lim ws (body None) [] l refl e, complete)

-- a line that ends in a state of little nesting nests little
ends_low : (m : ℕ) (st : State) (l : Line) → Low m st → ending st ≡ read l → deep_line l ≤ m
ends_low m (body None) l low e = subst (λ k. deep_line k ≤ m) (same_line _ _ e) (omega arith)
ends_low m (body (Some o)) l low e = absurd (not-read e)
ends_low m (head o n) l low e = absurd (not-read e)
ends_low m (rest (whole k)) l low e = subst (λ k. deep_line k ≤ m) (same_line _ _ e) low
ends_low m (rest (name_next f)) l low e = absurd (not-read e)
ends_low m (rest (number_next f)) l low e = absurd (not-read e)
ends_low m (rest (to_next f)) l low e = absurd (not-read e)
ends_low m (need o s p σ) l low e = absurd (not-read e)
ends_low m (have o None x σ) l low e = absurd (not-read e)
ends_low m (have o (Some k) x []) l low e = subst (λ k. deep_line k ≤ m) (same_line _ _ e) (omega (arith, low.0, low.1))
ends_low m (have o (Some k) x (q ∷ σ)) l low e = absurd (not-read e)

nests_from : (m : ℕ) (ws : List Spot) (st : State) (l : Line) → Low m st → parse m st ws ≡ read l → deep_line l ≤ m
nests_from m [] st l low e = ends_low m st l low e
nests_from m (w ∷ ws) st l low e = go (step m st w) (fact m st w) (λ st' low' e'. nests_from m ws st' l low' e') e
  where
    go : (k : Step) → Fact m st w k → ((st' : State) → Low m st' → parse m st' ws ≡ read l → deep_line l ≤ m) → went k (λ st. parse m st ws) ≡ read l → deep_line l ≤ m
    go (on st') f ih e = ih st' (f.low low) e
    go (off r) f ih e = absurd (not-read e)

pub nests : Nests
nests lim ws l e = nests_from lim ws (body None) l tt e
