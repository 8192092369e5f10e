-- What lines build has the solutions of the lines.
use Rattle.std.proofs.Common.{◌≡◌, ℕ, Bool, true, ◌⊎◌, List, [], ◌∷◌, ◌++◌, ℤ, pos, ◌+ℤ◌, ◌≤ℤ◌, Some, None, Option, sym, refl, ap, ◌∙◌, subst, arith}
use Rattle.std.proofs.lemmas.Int.{ints}
use Rattle.std.proofs.lemmas.Bool.{false≢true, eqb-true, eq-eqb}
use Rattle.statements.specs.Numbers.{InU}
use Rattle.statements.specs.Statements.{allowed}
use Rattle.statements.specs.declared.statement.Statement.{Statement}
use Rattle.statements.specs.declared.statement.Statement.TheVariants.{Between}
use Rattle.plan.specs.declared.constraint.Form.{Form}
use Rattle.plan.specs.Items.{Items, nothing, sound}
use Rattle.plan.specs.Names.{Texts, premise_of}
use Rattle.plan.specs.Placements.{Placement, Satisfies, Premises, InForce}
use Rattle.grammar.specs.Tree.{Owner, Body, within, aligned, apart, at_most, Line, blank, cell, premise, constraint}
use Rattle.meaning.specs.Making.{or_zero, cell_named, premise_named, makes, aligned_to, owner_of, place_of, line_makes}
use Rattle.meaning.specs.Checks.{line_fault}
use Rattle.meaning.specs.Solutions.{Assignment, BodySummed, Holds, Forced, Solves, SolvesAll, Extension, OneExtension, by_name, SameSolutions}
use Rattle.meaning.specs.Building.{BodyCounts, Stands, Built, none, more}
use Rattle.std.proofs.lemmas.Option.{none-some}
use Rattle.meaning.proofs.Growing.{Grows, grows_none, grows_then, grows-adds, grows_expr, grows-cell, grows-premise, KnowsBody, KnowsOwner, knows_after, constraint_knows, new_name}
use Rattle.meaning.proofs.Sound.{made_expr, helpers_of, form_of, body_makes_lem, grows-body, built_sound}
use Rattle.meaning.proofs.Reading.{meets-front, extension_back, read_expr}
use Rattle.meaning.proofs.Extending.{adds_one, premise_one, cell_one, expr_one, in_u}

-- premises by number and by name agree on the premises of a draft
pub record Agrees (ts : Texts) (d : Items) (s : Premises) (r : List ℕ → Bool) : Type 0 where
  pub same : (b : List ℕ) (q : ℕ) → premise_of ts d.premises b ≡ Some q → s q ≡ r b

agrees_back : {ts : Texts} {d e : Items} {s : Premises} {r : List ℕ → Bool} → Grows ts d e → Agrees ts e s r → Agrees ts d s r
agrees_back g a = record { same = λ b q h. a.same b q (g.premises_stay b q h) }

-- a constraint of the draft is in force exactly when the line is
all_in_force : {ts : Texts} {d : Items} {s : Premises} {r : List ℕ → Bool} → Agrees ts d s r → (w : Option Owner) (f : Form) → KnowsOwner ts d w → Forced r w → InForce s (record { owner = owner_of ts d w; form = f })
all_in_force a None f k h = λ q e. absurd (false≢true e)
all_in_force {ts} {d} {s} {r} a (Some o) f k h =
    λ q e. ap s (eqb-true q (premise_named ts d o.premise.bytes) e) ∙ a.same o.premise.bytes (premise_named ts d o.premise.bytes) k ∙ h

forced : {ts : Texts} {d : Items} {s : Premises} {r : List ℕ → Bool} → Agrees ts d s r → (w : Option Owner) (f : Form) → KnowsOwner ts d w → InForce s (record { owner = owner_of ts d w; form = f }) → Forced r w
forced a None f k h = tt
forced {ts} {d} {s} {r} a (Some o) f k h =
    let q = premise_named ts d o.premise.bytes in
    sym (a.same o.premise.bytes q k) ∙ h q (eq-eqb q q refl)

-- what a placement that fits a constraint's helpers says of the line
pub record ReadBody (ts : Texts) (d : Items) (s : Premises) (v : Assignment) (p : Placement) (b : Body) : Type 0 where
  pub sums : BodySummed v b
  pub holds : Satisfies p (form_of ts b d) → Holds v b
  pub satisfied : Holds v b → Satisfies p (form_of ts b d)
  pub rest : Extension ts d s v p

allowed_same : (t : Statement) (x y : ℤ) → x ≡ y → allowed t x ≡ true → allowed t y ≡ true
allowed_same t x y e h = grind arith

apart_same : (m n : ℕ) (a b x y : ℤ) → a ≡ x → b ≡ y → ((a +ℤ pos m) ≤ℤ b) ⊎ ((b +ℤ pos n) ≤ℤ a) → ((x +ℤ pos m) ≤ℤ y) ⊎ ((y +ℤ pos n) ≤ℤ x)
apart_same m n a b x y e f h = grind arith

gap_none : (a b x y : ℤ) → a ≡ x → b ≡ y → (a +ℤ pos 0) ≤ℤ b → x ≤ℤ y
gap_none a b x y e f h = omega (arith, ints)

none_gap : (a b x y : ℤ) → a ≡ x → b ≡ y → x ≤ℤ y → (a +ℤ pos 0) ≤ℤ b
none_gap a b x y e f h = omega (arith, ints)

read-body : {ts : Texts} {s : Premises} {v : Assignment} {p : Placement} (b : Body) (d : Items) → KnowsBody ts d b → Extension ts (helpers_of ts b d) s v p → ReadBody ts d s v p b
read-body {ts} {s} {v} {p} (within n i lo t hi) d k x =
    let e = x.extends n.bytes (cell_named ts d n.bytes) k in
    record { sums = tt; holds = allowed_same (Between (pos lo.value) (pos hi.value)) _ _ e; satisfied = allowed_same (Between (pos lo.value) (pos hi.value)) _ _ (sym e); rest = x }
read-body {ts} {s} {v} {p} (aligned n c j r) d k x =
    let e = x.extends n.bytes (cell_named ts d n.bytes) k in
    record { sums = tt; holds = allowed_same (aligned_to j.value r.value) _ _ e; satisfied = allowed_same (aligned_to j.value r.value) _ _ (sym e); rest = x }
read-body {ts} {s} {v} {p} (apart a c m b n) d k x =
    let e = x.extends a.bytes (cell_named ts d a.bytes) k.0 in
    let f = x.extends b.bytes (cell_named ts d b.bytes) k.1 in
    record {
      sums = tt;
      holds = apart_same m.value n.value _ _ _ _ e f;
      satisfied = apart_same m.value n.value _ _ _ _ (sym e) (sym f);
      rest = x;
    }
read-body {ts} {s} {v} {p} (at_most e c f) d k x =
    let right = read_expr f (makes ts None e d).then (knows_after (grows_expr ts e d) f k.1) x in
    let left = read_expr e d k.0 right.rest in
    record {
      sums = (left.sums, right.sums);
      holds = gap_none _ _ _ _ left.is right.is;
      satisfied = none_gap _ _ _ _ left.is right.is;
      rest = left.rest;
    }

body_one : {ts : Texts} {s : Premises} {v : Assignment} (b : Body) (d : Items) → sound d ≡ true → KnowsBody ts d b → BodyCounts b → BodySummed v b → OneExtension ts d s v → OneExtension ts (helpers_of ts b d) s v
body_one (within n i lo t hi) d w k m h o = o
body_one (aligned n c j r) d w k m h o = o
body_one (apart a c x b y) d w k m h o = o
body_one {ts} (at_most e c f) d w k m h o =
    expr_one f (makes ts None e d).then (made_expr ts e d w k.0).is_sound (knows_after (grows_expr ts e d) f k.1) m.1 h.1 (expr_one e d w k.0 m.0 h.0 o)

grows_line : (ts : Texts) (t o : ℕ) (l : Line) (d : Items) → Grows ts d (line_makes ts t o l d)
grows_line ts t o blank d = grows_none
grows_line ts t o (cell c n) d = grows-cell ts (Some (place_of t o n)) d
grows_line ts t o (premise c n) d = grows-premise ts (place_of t o n) d
grows_line ts t o (constraint w b) d =
    subst (Grows ts d) (sym (body_makes_lem ts (owner_of ts d w) b d)) (grows_then (grows-body ts b d) (grows-adds ts (owner_of ts d w) (form_of ts b d) (helpers_of ts b d)))

-- what fits a draft after a line solves the line, and fits the draft before it
pub record ReadLine (ts : Texts) (d : Items) (s : Premises) (r : List ℕ → Bool) (v : Assignment) (p : Placement) (l : Line) : Type 0 where
  pub solves : Solves v r l
  pub rest : Extension ts d s v p

read_line : {ts : Texts} {s : Premises} {r : List ℕ → Bool} {v : Assignment} {p : Placement} (t o : ℕ) (l : Line) (d : Items) → line_fault ts d l ≡ None → Agrees ts d s r → Extension ts (line_makes ts t o l d) s v p → ReadLine ts d s r v p l
read_line t o blank d f a x = record { solves = tt; rest = x }
read_line {ts} t o (cell c n) d f a x = record { solves = tt; rest = extension_back (grows-cell ts (Some (place_of t o n)) d) x.meets x }
read_line {ts} t o (premise c n) d f a x = record { solves = tt; rest = extension_back (grows-premise ts (place_of t o n) d) x.meets x }
read_line {ts} {s} {r} {v} {p} t o (constraint w b) d f a x =
    let k = constraint_knows ts d w b f in
    let u = helpers_of ts b d in
    let q = owner_of ts d w in
    let y = subst (λ (z : Items). Extension ts z s v p) (body_makes_lem ts q b d) x in
    let m = meets-front p s u.constraints (record { owner = q; form = form_of ts b d }) y.meets in
    let h = read-body b d k.1 (extension_back (grows-adds ts q (form_of ts b d) u) m.0 y) in
    record { solves = ((λ e. h.holds (m.1 (all_in_force a w (form_of ts b d) k.0 e))), h.sums); rest = h.rest }

-- an assignment that solves a line carries the placement on
line_one : {ts : Texts} {s : Premises} {r : List ℕ → Bool} {v : Assignment} (t o : ℕ) (l : Line) (d : Items) → sound d ≡ true → line_fault ts d l ≡ None → Stands ts t o l → ((b : List ℕ) → InU (v b)) → Agrees ts d s r → Solves v r l → OneExtension ts d s v → OneExtension ts (line_makes ts t o l d) s v
line_one t o blank d w f st u a h e = e
line_one {ts} t o (cell c n) d w f st u a h e = cell_one (place_of t o n) n.bytes d w (u n.bytes) st (new_name ts d n f) e
line_one t o (premise c n) d w f st u a h e = premise_one (place_of t o n) d e
line_one {ts} {s} {r} {v} t o (constraint i b) d w f st u a h e =
    let k = constraint_knows ts d i b f in
    subst (λ (z : Items). OneExtension ts z s v) (sym (body_makes_lem ts (owner_of ts d i) b d))
    (adds_one (owner_of ts d i) (form_of ts b d) (helpers_of ts b d)
    (λ p x y. (read-body b d k.1 x).satisfied (h.0 (forced a i (form_of ts b d) k.0 y)))
    (body_one b d w k.1 st h.1 e))

solves-front : (v : Assignment) (r : List ℕ → Bool) (ls : List Line) (l : Line) → SolvesAll v r (ls ++ l ∷ []) → SolvesAll v r ls × Solves v r l
solves-front v r [] l h = (tt, h.0)
solves-front v r (x ∷ xs) l h = let q = solves-front v r xs l h.1 in ((h.0, q.0), q.1)

solves_last : (v : Assignment) (r : List ℕ → Bool) (ls : List Line) (l : Line) → SolvesAll v r ls → Solves v r l → SolvesAll v r (ls ++ l ∷ [])
solves_last v r [] l h e = (e, tt)
solves_last v r (x ∷ xs) l h e = (h.0, solves_last v r xs l h.1 e)

-- the numbers of an empty draft are any
nothing_one : (ts : Texts) (s : Premises) (v : Assignment) → OneExtension ts nothing s v
nothing_one ts s v = record {
  placement = λ c. pos 0;
  is = record { placed = λ c. in_u 0 (omega arith); meets = tt; extends = λ b c h. absurd (none-some c h) };
  only = λ p x c lt. absurd (omega arith);
}

-- whatever fits what lines build solves the lines
built_read : {ts : Texts} {ls : List Line} {d : Items} {s : Premises} {r : List ℕ → Bool} {v : Assignment} {p : Placement} → Built ts ls d → Agrees ts d s r → Extension ts d s v p → SolvesAll v r ls
built_read none a x = tt
built_read {ts} {s = s} {r = r} {v = v} {p = p} (more {ls} {d} b t o l f st) a x =
    let c = agrees_back (grows_line ts t o l d) a in
    let h = read_line t o l d f c x in
    solves_last v r ls l (built_read b c h.rest) h.solves

-- each solution of the lines extends to what they build, in one way
built_one : {ts : Texts} {ls : List Line} {d : Items} {s : Premises} {r : List ℕ → Bool} {v : Assignment} → Built ts ls d → ((b : List ℕ) → InU (v b)) → Agrees ts d s r → SolvesAll v r ls → OneExtension ts d s v
built_one {ts} {s = s} {v = v} none u a h = nothing_one ts s v
built_one {ts} {s = s} {r = r} {v = v} (more {ls} {d} b t o l f st) u a h =
    let c = agrees_back (grows_line ts t o l d) a in
    let q = solves-front v r ls l h in
    line_one t o l d (built_sound b) f st u c q.1 (built_one b u c q.0)

by_name_lem : (ts : Texts) (d : Items) (s : Premises) → Agrees ts d s (by_name ts d s)
by_name_lem ts d s = record { same = λ b q h. ap (λ (o : Option ℕ). s (or_zero o)) (sym h) }

pub built_solves : (ts : Texts) (ls : List Line) (d : Items) → Built ts ls d → SameSolutions ts ls d
built_solves ts ls d b = record {
  cuts = λ s p u m. record {
    numbers = λ a. u (cell_named ts d a);
    solves = built_read b (by_name_lem ts d s) (record { placed = u; meets = m; extends = λ a c h. ap (λ (o : Option ℕ). p (or_zero o)) (sym h) });
  };
  extends = λ s v h. built_one b h.numbers (by_name_lem ts d s) h.solves;
}
