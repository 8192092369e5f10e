-- A whole line against its reading.
use Rattle.std.proofs.Common.{◌≡◌, ℕ, ◌≤◌, true, List, [], ◌∷◌, ◌++◌, Some, None, Ok, Err, Option, Result, ap, ◌∙◌, arith}
use Rattle.std.proofs.lemmas.List.Elements.{All-head}
use Rattle.words.specs.declared.Placed.{Placed}
use Rattle.words.specs.declared.Symbol.TheVariants.{Colon}
use Rattle.words.specs.declared.Keyword.TheVariants.{Cell, Premise}
use Rattle.words.specs.Words.{symbol, reserved, Spot}
use Rattle.grammar.specs.Tree.{Name, Owner, cell, premise, constraint, at, name_spot}
use Rattle.grammar.specs.Parse.{body, parse, parse_line}
use Rattle.faults.specs.declared.Found.{Found}
use Rattle.plan.specs.declared.place.Place.{Place}
use Rattle.plan.specs.Names.{premise_of}
use Rattle.meaning.specs.Making.{body_makes, premise_named}
use Rattle.meaning.specs.Checks.{first, wanted, body_fault}
use Rattle.sheet.specs.declared.line.Start.{Start}
use Rattle.sheet.specs.declared.next.Name.{Name as NameRead}
use Rattle.sheet.specs.declared.reading.Stop.{Stop}
use Rattle.sheet.specs.Next.{tree_name}
use Rattle.sheet.specs.Progress.{Progress, made, further}
use Rattle.sheet.specs.Reads.{limit, spots}
use Rattle.sheet.specs.Forms.{plain, Near, NewRead, BodyTells, LineTells}
use Rattle.sheet.proofs.Same.{first_assoc}
use Rattle.sheet.proofs.Steps.{says}

-- ---- declarations

first_column : List Spot → ℕ
first_column [] = 0
first_column (w ∷ ws) = w.column

pub name-near : (ws us : List Placed) (n : NameRead) → Near ws → spots ws ≡ name_spot (tree_name n) ∷ spots us → n.column ≤ 32768
unfolding first_column
name-near [] us n near is = let same : 0 ≡ n.column = ap first_column is in omega arith
name-near (w ∷ ws) us n near is =
    let same : w.column ≡ n.column = ap first_column is in
    omega (arith, All-head (λ v. v.column ≤ 32768) w ws near)

-- a name that is declared
module _ {s : Start} {p m : Progress} {vs : List Placed} {x : Place} (r : NewRead s p vs x m) (ws : List Placed) (c : ℕ) (u : Unit {0}) (e : Progress) where
  pub cell_declared : spots ws ≡ at c (reserved Cell) ∷ spots vs → e ≡ made m (record { cells = m.items.cells ++ Some x ∷ []; premises = m.items.premises; constraints = m.items.constraints }) → LineTells (Ok u) s p ws e
  cell_declared is end = (
    cell c r.new,
    (
      ap (parse_line limit) is ∙ r.goes (cell c),
      record {
        texts = ap (λ x. x.texts) end ∙ ap (λ x. x.texts) r.leaves;
        found = ap (λ x. x.found) end ∙ ap (λ x. x.found) r.leaves;
        items = λ _. ap (λ x. x.items) end ∙ (λ i. record { cells = (r.leaves i).items.cells ++ Some (r.place i) ∷ []; premises = (r.leaves i).items.premises; constraints = (r.leaves i).items.constraints });
      },
    ),
  )

  pub premise_declared : spots ws ≡ at c (reserved Premise) ∷ spots vs → e ≡ made m (record { cells = m.items.cells; premises = m.items.premises ++ x ∷ []; constraints = m.items.constraints }) → LineTells (Ok u) s p ws e
  premise_declared is end = (
    premise c r.new,
    (
      ap (parse_line limit) is ∙ r.goes (premise c),
      record {
        texts = ap (λ x. x.texts) end ∙ ap (λ x. x.texts) r.leaves;
        found = ap (λ x. x.found) end ∙ ap (λ x. x.found) r.leaves;
        items = λ _. ap (λ x. x.items) end ∙ (λ i. record { cells = (r.leaves i).items.cells; premises = (r.leaves i).items.premises ++ r.place i ∷ []; constraints = (r.leaves i).items.constraints });
      },
    ),
  )

-- ---- a constraint

second_none : (a b : Option Found) → first a b ≡ None → b ≡ None
second_none None b h = h
second_none (Some f) b h = cc

-- a constraint that nothing owns
pub line_plain : (r : Result (Unit {0}) Stop) (s : Start) (p e : Progress) (ws : List Placed) → plain (spots ws) ≡ true → BodyTells r None p ws e → LineTells r s p ws e
line_plain (Ok u) s p e ws is d = let w = d None is in (constraint None w.0, (w.1.0, record { texts = w.1.1.texts; found = w.1.1.found; items = w.1.1.items }))
line_plain (Err r) s p e ws is d = d None is

-- a constraint that a premise owns
pub line_owned : (r : Result (Unit {0}) Stop) (s : Start) (i k : ℕ) (n : Name) (p m e : Progress) (ws vs : List Placed) → spots ws ≡ name_spot n ∷ at k (symbol Colon) ∷ spots vs → i ≡ premise_named p.texts p.items n.bytes → m ≡ further p (wanted (premise_of p.texts p.items.premises n.bytes) n.column) → BodyTells r (Some i) m vs e → LineTells r s p ws e
line_owned (Ok u) s i k n p m e ws vs is own mid d =
    let q : Owner = record { premise = n; colon = k } in
    let w = d (Some q) tt in
    let f = wanted (premise_of p.texts p.items.premises n.bytes) n.column in (
      constraint (Some q) w.0,
      (
        ap (parse limit (body None)) is ∙ w.1.0,
        record {
          texts = w.1.1.texts ∙ ap (λ x. x.texts) mid;
          found = w.1.1.found ∙ ap (λ x. first x.found (body_fault x.texts x.items w.0)) mid ∙ first_assoc p.found f (body_fault p.texts p.items w.0);
          items = λ fine.
              let none = second_none f (body_fault p.texts p.items w.0) fine in
              w.1.1.items (ap (λ x. body_fault x.texts x.items w.0) mid ∙ none) ∙ (λ j. body_makes (mid j).texts (Some (own j)) w.0 (mid j).items);
        },
      ),
    )
line_owned (Err r) s i k n p m e ws vs is own mid d =
    says r (ap (parse limit (body None)) is) (d (Some (record { premise = n; colon = k })) tt)
