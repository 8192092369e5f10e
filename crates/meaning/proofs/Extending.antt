-- A placement of a draft is carried on, in one way, to what is made next.
use Rattle.std.proofs.Common.{◌≡◌, ℕ, ◌+◌, ◌<◌, ◌≤◌, true, false, cond, eqb, ◌⊎◌, List, [], ◌∷◌, ◌++◌, length, ℤ, pos, ◌+ℤ◌, ◌≤ℤ◌, Some, None, Option, sym, refl, ap, ◌∙◌, subst, inl, inr, ⊎_elim, arith}
use Rattle.std.proofs.lemmas.Slice.Eq.{bytes_eq-Decides}
use Rattle.std.proofs.lemmas.Int.{ints, clamps}
use Rattle.std.proofs.lemmas.Bool.{and_parts, cond_both}
use Rattle.words.specs.Words.{top}
use Rattle.statements.specs.Numbers.{InU}
use Rattle.statements.specs.Statements.{allowed}
use Rattle.statements.specs.declared.statement.Statement.TheVariants.{Between}
use Rattle.plan.specs.declared.constraint.Constraint.{Constraint}
use Rattle.plan.specs.declared.constraint.Form.{Form}
use Rattle.plan.specs.declared.constraint.Form.TheVariants.{State, Sum, Gap, Apart}
use Rattle.plan.specs.declared.place.Place.{Place}
use Rattle.plan.specs.Forms as forms
use Rattle.plan.specs.Known.{all_below, known, all_known}
use Rattle.plan.specs.Items.{Items, sound}
use Rattle.plan.specs.Names.{Texts, cell_of, spells, name_at, part_of}
use Rattle.plan.specs.Placements.{Placement, Satisfies, Premises, InForce, Meets}
use Rattle.grammar.specs.Tree.{Expr, one, plus, Term, named, counted, group}
use Rattle.meaning.specs.Making.{adds, helper, makes, makes_term}
use Rattle.meaning.specs.Solutions.{Assignment, value, term_value, Summed, TermSummed, Extension, OneExtension}
use Rattle.meaning.specs.Building.{Counts, TermCounts}
use Rattle.std.proofs.lemmas.List.{length_push}
use Rattle.meaning.proofs.Names.{first_back, first_new}
use Rattle.meaning.proofs.Growing.{grows_expr, grows-cell, grows-adds, with_cell, with_premise, Knows, KnowsTerm, knows_term_after}
use Rattle.meaning.proofs.Sound.{names_of, finds_below, made_expr, made_term}
use Rattle.meaning.proofs.Reading.{meets-front, meets_last, extension_back, helped, between_is, read_expr, read_term}

-- a placement with another number for one cell
abbrev update : ℕ → ℤ → Placement → Placement
update n z p c = cond (eqb c n) z (p c)

update_here : (n : ℕ) (z : ℤ) (p : Placement) (c : ℕ) → c ≡ n → update n z p c ≡ z
update_here n z p c e = grind arith

update_below : (n : ℕ) (z : ℤ) (p : Placement) (c : ℕ) → c < n → update n z p c ≡ p c
update_below n z p c h = grind arith

update_placed : (n : ℕ) (z : ℤ) (p : Placement) (c : ℕ) → InU z → InU (p c) → InU (update n z p c)
update_placed n z p c a b = cond_both (eqb c n) z (p c) InU (λ e. a) (λ e. b)

-- a form asks the same of placements that agree on its cells
satisfies_same : (n : ℕ) (p q : Placement) → ((c : ℕ) → c < n → p c ≡ q c) → (f : Form) → all_below n (forms.named f) ≡ true → Satisfies p f → Satisfies q f
satisfies_same n p q e (State c s) b h =
    grind (arith, e c)
satisfies_same n p q e (Sum x y c) b h = grind (arith, e x, e y, e c)
satisfies_same n p q e (Gap x m y) b h = grind (arith, e x, e y)
satisfies_same n p q e (Apart x m y l) b h =
    let i : p x ≡ q x = grind (arith, e x) in
    let j : p y ≡ q y = grind (arith, e y) in
    subst (λ (z : ℤ). ((q x +ℤ pos m) ≤ℤ z) ⊎ ((z +ℤ pos l) ≤ℤ q x)) j (subst (λ (z : ℤ). ((z +ℤ pos m) ≤ℤ p y) ⊎ ((p y +ℤ pos l) ≤ℤ z)) i h)

meets_same : (n m : ℕ) (p q : Placement) (s : Premises) → ((c : ℕ) → c < n → p c ≡ q c) → (ks : List Constraint) → all_known n m ks ≡ true → Meets p s ks → Meets q s ks
meets_same n m p q s e [] b h = tt
meets_same n m p q s e (k ∷ ks) b h =
    let i = and_parts (known n m k) (all_known n m ks) b in
    ((λ f. satisfies_same n p q e k.form (names_of n m k i.0).cells (h.0 f)), meets_same n m p q s e ks i.1 h.1)

-- a number for a cell that a draft does not have changes nothing that the draft asks
extension_update : {ts : Texts} {s : Premises} {v : Assignment} {p : Placement} (d : Items) (z : ℤ) → sound d ≡ true → InU z → Extension ts d s v p → Extension ts d s v (update (length d.cells) z p)
extension_update {ts} {s} {v} {p} d z w a x =
    let n = length d.cells in
    record {
      placed = λ c. update_placed n z p c a (x.placed c);
      meets = meets_same n (length d.premises) p (update n z p) s (λ c lt. sym (update_below n z p c lt)) d.constraints w x.meets;
      extends = λ b c h. update_below n z p c (finds_below ts d b c h) ∙ x.extends b c h;
    }

-- a helper has no name
helper-extends : (ts : Texts) (v : Assignment) (p : Placement) (d : Items) → ((b : List ℕ) (c : ℕ) → cell_of ts d.cells b ≡ Some c → p c ≡ v b) → (b : List ℕ) (c : ℕ) → cell_of ts (d.cells ++ None ∷ []) b ≡ Some c → p c ≡ v b
helper-extends ts v p d x b c h =
    elim (first_back (λ i. spells (name_at ts i) b) d.cells None 0 c h) [ inl e ↦ x b c e | inr e ↦ absurd (no e) ]
  where
    no : (c ≡ 0 + length d.cells) × (false ≡ true) → ⊥
    no e = let z : ◌≡◌ {A = ℕ} 0 1 = cc e.1 in omega arith

-- agreeing below n and at n is agreeing below n + 1
below_next : (n z : ℕ) (x : ℤ) (p q : Placement) → z ≡ n + 1 → ((c : ℕ) → c < n → q c ≡ p c) → q n ≡ x → (c : ℕ) → c < z → q c ≡ update n x p c
below_next n z x p q e f g c lt = grind (arith, f c)

-- a helper whose form pins its number, to one of U, carries the placement on
helper_one : {ts : Texts} {s : Premises} {v : Assignment} (f : ℕ → Form) (d : Items) (z : ℤ) → sound d ≡ true → InU z
    → ((p : Placement) → Extension ts d s v p → Satisfies p (f (length d.cells)) → p (length d.cells) ≡ z)
    → ((p : Placement) → Extension ts d s v p → p (length d.cells) ≡ z → Satisfies p (f (length d.cells)))
    → OneExtension ts d s v → OneExtension ts (helper None f d).then s v
helper_one {ts} {s} {v} f d z w a pins holds o =
    let n = length d.cells in
    let p = update n z o.placement in
    let x = extension_update d z w a o.is in
    record {
      placement = p;
      is = record {
        placed = x.placed;
        meets = meets_last p s d.constraints (record { owner = None; form = f n }) x.meets (λ i. holds p x (update_here n z o.placement n refl));
        extends = helper-extends ts v p d x.extends;
      };
      only = λ q y.
          let h = helped f d y in
          below_next n (length (d.cells ++ None ∷ [])) z o.placement q (length_push d.cells None) (o.only q h.rest) (pins q h.rest h.holds);
    }

-- a further constraint that the placement satisfies where it is in force
pub adds_one : {ts : Texts} {s : Premises} {v : Assignment} (q : Option ℕ) (f : Form) (d : Items)
    → ((p : Placement) → Extension ts d s v p → InForce s (record { owner = q; form = f }) → Satisfies p f)
    → OneExtension ts d s v → OneExtension ts (adds q f d) s v
adds_one {ts} {s} {v} q f d holds o =
    record {
      placement = o.placement;
      is = record {
        placed = o.is.placed;
        meets = meets_last o.placement s d.constraints (record { owner = q; form = f }) o.is.meets (holds o.placement o.is);
        extends = o.is.extends;
      };
      only = λ p y. o.only p (extension_back (grows-adds ts q f d) (meets-front p s d.constraints (record { owner = q; form = f }) y.meets).0 y);
    }

-- a premise more asks nothing
pub premise_one : {ts : Texts} {s : Premises} {v : Assignment} (x : Place) (d : Items) → OneExtension ts d s v → OneExtension ts (with_premise x d) s v
premise_one x d o = record {
  placement = o.placement;
  is = record { placed = o.is.placed; meets = o.is.meets; extends = o.is.extends };
  only = λ p y. o.only p (record { placed = y.placed; meets = y.meets; extends = y.extends });
}

spelled_same : (o : Option (List ℕ)) (a b : List ℕ) → o ≡ Some a → spells o b ≡ true → a ≡ b
spelled_same o a b e h = grind (arith, bytes_eq-Decides a b)

spelled_so : (o : Option (List ℕ)) (a : List ℕ) → o ≡ Some a → spells o a ≡ true
spelled_so o a e = grind (arith, bytes_eq-Decides a a)

-- a declared cell takes the number of its name
pub cell_one : {ts : Texts} {s : Premises} {v : Assignment} (x : Place) (a : List ℕ) (d : Items) → sound d ≡ true → InU (v a) → part_of ts x ≡ Some a → cell_of ts d.cells a ≡ None → OneExtension ts d s v → OneExtension ts (with_cell (Some x) d) s v
cell_one {ts} {s} {v} x a d w u st new o =
    let n = length d.cells in
    let p = update n (v a) o.placement in
    let y = extension_update d (v a) w u o.is in
    record {
      placement = p;
      is = record {
        placed = y.placed;
        meets = y.meets;
        extends = λ b c h.
            ⊎_elim (λ e. y.extends b c e) (λ e. update_here n (v a) o.placement c (omega (arith, e.0)) ∙ ap v (spelled_same (part_of ts x) a b st e.1)) (first_back (λ i. spells (name_at ts i) b) d.cells (Some x) 0 c h);
      };
      only = λ q z.
          below_next n (length (d.cells ++ Some x ∷ [])) (v a) o.placement q (length_push d.cells (Some x)) (o.only q (extension_back (grows-cell ts (Some x) d) z.meets z))
          (z.extends a n (first_new (λ i. spells (name_at ts i) a) d.cells (Some x) 0 new (spelled_so (part_of ts x) a st) ∙ ap (λ (i : ℕ). Some i) (omega arith)));
    }

-- n is one of n to n, where it is a number of U
is_between : (n : ℕ) (x : ℤ) → n ≤ top → x ≡ pos n → allowed (Between (pos n) (pos n)) x ≡ true
is_between n x h e = grind (arith, ints, clamps)

pub in_u : (n : ℕ) → n ≤ top → InU (pos n)
in_u n h = (omega (arith, ints), omega (arith, ints))

-- an expression whose sums have values in U carries the placement on to its helpers
mutual
  pub expr_one : {ts : Texts} {s : Premises} {v : Assignment} (e : Expr) (d : Items) → sound d ≡ true → Knows ts d e → Counts e → Summed v e → OneExtension ts d s v → OneExtension ts (makes ts None e d).then s v
  expr_one (one t) d w k n h o = term_one t d w k n h o
  expr_one {ts} {s} {v} (plus e c t) d w k n h o =
      let m = (makes ts None e d).then in
      let u = makes_term ts None t m in
      let f = λ (i : ℕ). Sum (makes ts None e d).cell u.cell i in
      let l = knows_term_after (grows_expr ts e d) t k.1 in
      let left = made_expr ts e d w k.0 in
      let right = made_term ts t m left.is_sound l in
      let sum : (p : Placement) → Extension ts u.then s v p → p (makes ts None e d).cell +ℤ p u.cell ≡ value v e +ℤ term_value v t =
      λ p x. let r = read_term t m l x in let q = read_expr e d k.0 r.rest in λ i. q.is i +ℤ r.is i in
      helper_one f u.then (value v e +ℤ term_value v t) right.is_sound h.2
      (λ p x y. sym y ∙ sum p x) (λ p x y. sum p x ∙ sym y)
      (term_one t m left.is_sound l n.1 h.1 (expr_one e d w k.0 n.0 h.0 o))

  term_one : {ts : Texts} {s : Premises} {v : Assignment} (t : Term) (d : Items) → sound d ≡ true → KnowsTerm ts d t → TermCounts t → TermSummed v t → OneExtension ts d s v → OneExtension ts (makes_term ts None t d).then s v
  term_one (named n) d w k i h o = o
  term_one (counted j) d w k i h o =
      helper_one (λ c. State c (Between (pos j.value) (pos j.value))) d (pos j.value) w (in_u j.value i)
      (λ p x y. between_is j.value (p (length d.cells)) y) (λ p x y. is_between j.value (p (length d.cells)) i y) o
  term_one (group c e j) d w k i h o = expr_one e d w k i h o
