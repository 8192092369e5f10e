-- The name of a cell or a premise: the part of the text that declared it.
use Rattle.std.specs.Prelude.{ℕ, ◌+◌, Bool, false, cond, List, [], ◌∷◌, length, take, drop, Some, None, Ok, Err, Option, Result, nat_le}
use Rattle.std.specs.Borrow.{Bor}
use Rattle.std.specs.List.{slice_get, position_from}
use Rattle.std.specs.Option.{option_copied}
use Rattle.std.specs.Str.{bytes_eq}
use Rattle.plan.specs.declared.names.Refusal.{Refusal}
use Rattle.plan.specs.declared.names.Refusal.TheVariants.{NoSuch}
use Rattle.plan.specs.declared.place.Place.{Place}
use Rattle.plan.specs.declared.texts.Texts.{Texts as Both}

-- texts by their numbers
abbrev pub Texts : Type 0
Texts = List (List ℕ)

-- the two texts of a plan: the chip text is 0, the project text 1
abbrev pub texts_of : Both → Texts
texts_of both = both.chip.now ∷ both.project.now ∷ []

-- the number of each refusal
abbrev pub number_of : Refusal → ℕ
number_of NoSuch = 5

-- len bytes of a text from start on, absent where it is too short
abbrev pub cut : List ℕ → ℕ → ℕ → Option (List ℕ)
cut text start len = cond (nat_le (start + len) (length text)) (Some (take len (drop start text))) None

abbrev pub cut_in : Option (List ℕ) → ℕ → ℕ → Option (List ℕ)
cut_in None start len = None
cut_in (Some text) start len = cut text start len

-- the bytes at a place, absent where its text is too short or is none of these
abbrev pub part_of : Texts → Place → Option (List ℕ)
part_of texts p = cut_in (slice_get texts p.text) p.start p.len

-- the same for a cell: a helper has no place, and so no name
abbrev pub name_at : Texts → Option Place → Option (List ℕ)
name_at texts None = None
name_at texts (Some p) = part_of texts p

-- the name of what was declared, refused where there is no such thing
abbrev pub name_in : {D : Type 0} → (D → Option Place) → Texts → Option D → Result (Option (List ℕ)) Refusal
name_in place texts None = Err NoSuch
name_in place texts (Some d) = Ok (name_at texts (place d))

-- a cell's name, refused where there is no such cell
abbrev pub cell_name : Texts → Option (Option Place) → Result (Option (List ℕ)) Refusal
cell_name = name_in (λ cell. cell)

-- a premise's name, refused where there is no such premise
abbrev pub premise_name : Texts → Option Place → Result (Option (List ℕ)) Refusal
premise_name = name_in (λ premise. Some premise)

-- what a name that was answered holds
abbrev pub answered : Result (Option (Bor (List ℕ))) Refusal → Result (Option (List ℕ)) Refusal
answered (Ok r) = Ok (option_copied r)
answered (Err e) = Err e

-- a name that is there is spelled so
abbrev pub spells : Option (List ℕ) → List ℕ → Bool
spells None name = false
spells (Some bytes) name = bytes_eq bytes name

-- the number of the first that was declared under that name
abbrev pub named_by : {D : Type 0} → (D → Option Place) → Texts → List D → List ℕ → Option ℕ
named_by place texts all name = position_from (λ d. spells (name_at texts (place d)) name) 0 all

-- the cell of that name
abbrev pub cell_of : Texts → List (Option Place) → List ℕ → Option ℕ
cell_of = named_by (λ cell. cell)

-- the premise of that name
abbrev pub premise_of : Texts → List Place → List ℕ → Option ℕ
premise_of = named_by (λ premise. Some premise)
