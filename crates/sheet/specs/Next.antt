-- What the readers of a single word answer.
use Rattle.std.specs.Prelude.{◌≡◌, ℕ, false, List, [], ◌∷◌, Some, None, Ok, Err, Option, Result}
use Rattle.std.specs.Borrow.{Bor}
use Rattle.words.specs.declared.Keyword.TheVariants.{To}
use Rattle.words.specs.declared.Placed.{Placed}
use Rattle.words.specs.declared.Symbol.{Symbol}
use Rattle.words.specs.Words.{reserved, symbol, meant}
use Rattle.grammar.specs.Tree.{Name, Number, name_spot, number_spot}
use Rattle.grammar.specs.Parse.{Rest, rest, name_next, number_next, to_next, parse}
use Rattle.sheet.specs.declared.next.Name.{Name as NameRead}
use Rattle.sheet.specs.declared.next.Number.{Number as NumberRead}
use Rattle.sheet.specs.declared.reading.Stop.{Stop}
use Rattle.sheet.specs.declared.reading.Stop.TheVariants as stop
use Rattle.sheet.specs.Reads.{limit, spots, Ends, begins}

-- the name and the number of a tree that the reader's stand for
abbrev pub tree_name : NameRead → Name
tree_name n = record { column = n.column; bytes = n.bytes.now }

abbrev pub tree_number : NumberRead → Number
tree_number k = record { column = k.column; value = k.value }

-- words that cannot go on so: the first is wrong, or there are too few
abbrev pub stop_at : List Placed → Stop
stop_at [] = stop.Short
stop_at (w ∷ ws) = stop.Word w.column

-- the first of the words is that symbol, and the others come after it
pub record Passes (s : Symbol) (ws vs : List Placed) : Type 0 where
  pub word : Placed
  pub stands : ws ≡ word ∷ vs
  pub is : meant word.token ≡ symbol s

-- a symbol that may come next
abbrev pub AfterTells : Symbol → Option (Bor (List Placed)) → List Placed → Type 0
AfterTells s (Some r) ws = Passes s ws r.now
AfterTells s None ws = begins s (spots ws) ≡ false

-- a symbol that has to come next
abbrev pub SymbolTells : Symbol → Result (Bor (List Placed)) Stop → List Placed → Type 0
SymbolTells s (Ok r) ws = Passes s ws r.now
SymbolTells s (Err e) ws = (begins s (spots ws) ≡ false) × (e ≡ stop_at ws)

-- a number, a name or the word `to`, where the rest of a form wants it
abbrev pub NumberTells : Result (NumberRead × Bor (List Placed)) Stop → List Placed → Type 0
NumberTells (Ok a) ws = spots ws ≡ number_spot (tree_number a.0) ∷ spots a.1.now
NumberTells (Err r) ws = (f : Number → Rest) → Ends r (parse limit (rest (number_next f)) (spots ws))

abbrev pub NameTells : Result (NameRead × Bor (List Placed)) Stop → List Placed → Type 0
NameTells (Ok a) ws = spots ws ≡ name_spot (tree_name a.0) ∷ spots a.1.now
NameTells (Err r) ws = (f : Name → Rest) → Ends r (parse limit (rest (name_next f)) (spots ws))

abbrev pub ToTells : Result (Bor (List Placed)) Stop → List Placed → Type 0
ToTells (Ok r) ws = (w : Placed) × ((ws ≡ w ∷ r.now) × (meant w.token ≡ reserved To))
ToTells (Err r) ws = (f : ℕ → Rest) → Ends r (parse limit (rest (to_next f)) (spots ws))

-- no word, where the line has to end
abbrev pub EndTells : Result (Unit {0}) Stop → List Placed → Type 0
EndTells (Ok u) ws = ws ≡ []
EndTells (Err r) [] = ⊥
EndTells (Err r) (w ∷ ws) = r ≡ stop.Word w.column
