-- What lines build names only its own cells and premises.
use Rattle.std.proofs.Common.{◌≡◌, ℕ, ◌<◌, ◌≤◌, true, List, [], ◌∷◌, ◌++◌, length, pos, Some, None, Option, sym, refl, subst, arith}
use Rattle.statements.specs.declared.statement.Statement.TheVariants.{Between}
use Rattle.plan.specs.declared.constraint.Constraint.{Constraint}
use Rattle.plan.specs.declared.constraint.Form.{Form}
use Rattle.plan.specs.declared.constraint.Form.TheVariants.{State, Sum, Gap, Apart}
use Rattle.plan.specs.declared.place.Place.{Place}
use Rattle.plan.specs.Forms as forms
use Rattle.plan.specs.Known.{all_below, owner_known, ranged, known, all_known}
use Rattle.plan.specs.Items.{Items, sound}
use Rattle.plan.specs.Names.{Texts, cell_of, spells, name_at, part_of}
use Rattle.grammar.specs.Tree.{Expr, one, plus, Term, named, counted, group, Owner, Body, within, aligned, apart, at_most, Line, blank, cell, premise, constraint}
use Rattle.meaning.specs.Making.{cell_named, premise_named, adds, Grown, helper, makes, makes_term, aligned_to, body_makes, owner_of, place_of, line_makes}
use Rattle.meaning.specs.Checks.{line_fault}
use Rattle.meaning.specs.Building.{Built, none, more}
use Rattle.std.proofs.lemmas.List.{length_push}
use Rattle.std.proofs.lemmas.List.Folds.{list_all-append}
use Rattle.meaning.proofs.Names.{first_below}
use Rattle.meaning.proofs.Growing.{Grows, grows_none, grows_then, grows_expr, grows_term_lem, with_cell, with_premise, Knows, KnowsTerm, KnowsBody, KnowsOwner, knows_after, knows_term_after, constraint_knows}

-- numbers that are below n are below whatever is not less
below_more : (n m : ℕ) (cs : List ℕ) → n ≤ m → all_below n cs ≡ true → all_below m cs ≡ true
below_more n m [] le h = refl
below_more n m (c ∷ cs) le h = grind (arith, below_more n m cs le)

owner_more : (n m : ℕ) (q : Option ℕ) → n ≤ m → owner_known n q ≡ true → owner_known m q ≡ true
owner_more n m None le h = refl
owner_more n m (Some p) le h = grind arith

-- the parts of a constraint that names only what there is
pub record Names (n m : ℕ) (k : Constraint) : Type 0 where
  pub cells : all_below n (forms.named k.form) ≡ true
  pub owner : owner_known m k.owner ≡ true
  pub range : ranged k.form ≡ true

pub names_of : (n m : ℕ) (k : Constraint) → known n m k ≡ true → Names n m k
names_of n m k h =
    record { cells = grind arith; owner = grind arith; range = grind arith }

of_names : (n m : ℕ) (k : Constraint) → Names n m k → known n m k ≡ true
of_names n m k h = grind (arith, h.cells, h.owner, h.range)

-- constraints that name only what there is do so where there is more
all_known_more : (n i m j : ℕ) (ks : List Constraint) → n ≤ i → m ≤ j → all_known n m ks ≡ true → all_known i j ks ≡ true
all_known_more n i m j [] a b h = refl
all_known_more n i m j (k ∷ ks) a b h =
    grind (arith, below_more n i (forms.named k.form) a, owner_more m j k.owner b, all_known_more n i m j ks a b)

all_known_last : (n m : ℕ) (ks : List Constraint) (k : Constraint) → all_known n m ks ≡ true → Names n m k → all_known n m (ks ++ k ∷ []) ≡ true
all_known_last n m ks k h e = grind (arith, list_all-append (known n m) ks (k ∷ []), of_names n m k e)

sound-adds : (q : Option ℕ) (f : Form) (d : Items) → sound d ≡ true → Names (length d.cells) (length d.premises) (record { owner = q; form = f }) → sound (adds q f d) ≡ true
sound-adds q f d h e = all_known_last (length d.cells) (length d.premises) d.constraints (record { owner = q; form = f }) h e

sound-cell : (x : Option Place) (d : Items) → sound d ≡ true → sound (with_cell x d) ≡ true
sound-cell x d h =
    all_known_more (length d.cells) (length (d.cells ++ x ∷ [])) (length d.premises) (length d.premises) d.constraints (omega (arith, length_push d.cells x)) (omega arith) h

sound-premise : (x : Place) (d : Items) → sound d ≡ true → sound (with_premise x d) ≡ true
sound-premise x d h =
    all_known_more (length d.cells) (length d.cells) (length d.premises) (length (d.premises ++ x ∷ [])) d.constraints (omega arith) (omega (arith, length_push d.premises x)) h

-- a helper's constraint names the helper and cells that there were
sound-helper : (f : ℕ → Form) (d : Items) → sound d ≡ true → ((m : ℕ) → length d.cells < m → all_below m (forms.named (f (length d.cells))) ≡ true) → ranged (f (length d.cells)) ≡ true → sound (helper None f d).then ≡ true
sound-helper f d h below range =
    sound-adds None (f (length d.cells)) (with_cell None d) (sound-cell None d h) (record { cells = below (length (d.cells ++ None ∷ [])) (omega (arith, length_push d.cells None)); owner = refl; range = range })

below_one : (m a : ℕ) → a < m → all_below m (a ∷ []) ≡ true
below_one m a h = grind arith

below_two : (m a b : ℕ) → a < m → b < m → all_below m (a ∷ b ∷ []) ≡ true
below_two m a b h k = grind arith

-- a cell that is found is one of the draft
pub finds_below : (ts : Texts) (d : Items) (b : List ℕ) (c : ℕ) → cell_of ts d.cells b ≡ Some c → c < length d.cells
finds_below ts d b c h = omega (arith, first_below (λ p. spells (name_at ts p) b) d.cells 0 c h)

-- what is known of an expression that is made: the cell that holds it is one of the draft
pub record Made (g : Grown) : Type 0 where
  pub is_sound : sound g.then ≡ true
  pub below : g.cell < length g.then.cells

mutual
  pub made_expr : (ts : Texts) (e : Expr) (d : Items) → sound d ≡ true → Knows ts d e → Made (makes ts None e d)
  made_expr ts (one t) d h k = made_term ts t d h k
  made_expr ts (plus e c t) d h k =
      let m = (makes ts None e d).then in
      let u = makes_term ts None t m in
      let left = made_expr ts e d h k.0 in
      let right = made_term ts t m left.is_sound (knows_term_after (grows_expr ts e d) t k.1) in
      let g = grows_term_lem ts t m in
      let n = length u.then.cells in
      let a = (makes ts None e d).cell in
      record {
        is_sound = sound-helper (λ c. Sum a u.cell c) u.then right.is_sound
            (λ i lt. grind (arith, left.below, right.below, g.more_cells)) refl;
        below = omega (arith, length_push u.then.cells None);
      }

  pub made_term : (ts : Texts) (t : Term) (d : Items) → sound d ≡ true → KnowsTerm ts d t → Made (makes_term ts None t d)
  made_term ts (named n) d h k = record { is_sound = h; below = finds_below ts d n.bytes (cell_named ts d n.bytes) k }
  made_term ts (counted j) d h k = record {
    is_sound = sound-helper (λ c. State c (Between (pos j.value) (pos j.value))) d h (λ i lt. below_one i (length d.cells) lt) refl;
    below = omega (arith, length_push d.cells None);
  }
  made_term ts (group c e j) d h k = made_expr ts e d h k

-- what there is after the helpers of a constraint
abbrev pub helpers_of : Texts → Body → Items → Items
helpers_of ts (within n i lo t hi) d = d
helpers_of ts (aligned n c k r) d = d
helpers_of ts (apart a c x b y) d = d
helpers_of ts (at_most e c f) d = (makes ts None f (makes ts None e d).then).then

-- the form of the constraint itself
abbrev pub form_of : Texts → Body → Items → Form
form_of ts (within n i lo t hi) d = State (cell_named ts d n.bytes) (Between (pos lo.value) (pos hi.value))
form_of ts (aligned n c k r) d = State (cell_named ts d n.bytes) (aligned_to k.value r.value)
form_of ts (apart a c x b y) d = Apart (cell_named ts d a.bytes) x.value (cell_named ts d b.bytes) y.value
form_of ts (at_most e c f) d = Gap (makes ts None e d).cell (pos 0) (makes ts None f (makes ts None e d).then).cell

pub body_makes_lem : (ts : Texts) (q : Option ℕ) (b : Body) (d : Items) → body_makes ts q b d ≡ adds q (form_of ts b d) (helpers_of ts b d)
body_makes_lem ts q (within n i lo t hi) d = refl
body_makes_lem ts q (aligned n c k r) d = refl
body_makes_lem ts q (apart a c x b y) d = refl
body_makes_lem ts q (at_most e c f) d = refl

pub grows-body : (ts : Texts) (b : Body) (d : Items) → Grows ts d (helpers_of ts b d)
grows-body ts (within n i lo t hi) d = grows_none
grows-body ts (aligned n c k r) d = grows_none
grows-body ts (apart a c x b y) d = grows_none
grows-body ts (at_most e c f) d = grows_then (grows_expr ts e d) (grows_expr ts f (makes ts None e d).then)

-- what is known of a constraint's form after its helpers
pub record MadeBody (u : Items) (f : Form) : Type 0 where
  pub is_sound : sound u ≡ true
  pub below : all_below (length u.cells) (forms.named f) ≡ true
  pub range : ranged f ≡ true

made_body : (ts : Texts) (b : Body) (d : Items) → sound d ≡ true → KnowsBody ts d b → MadeBody (helpers_of ts b d) (form_of ts b d)
made_body ts (within n i lo t hi) d h k =
    record { is_sound = h; below = below_one (length d.cells) (cell_named ts d n.bytes) (finds_below ts d n.bytes (cell_named ts d n.bytes) k); range = refl }
made_body ts (aligned n c j r) d h k =
    record { is_sound = h; below = below_one (length d.cells) (cell_named ts d n.bytes) (finds_below ts d n.bytes (cell_named ts d n.bytes) k); range = refl }
made_body ts (apart a c x b y) d h k = record {
  is_sound = h;
  below = below_two (length d.cells) (cell_named ts d a.bytes) (cell_named ts d b.bytes)
      (finds_below ts d a.bytes (cell_named ts d a.bytes) k.0) (finds_below ts d b.bytes (cell_named ts d b.bytes) k.1);
  range = refl;
}
made_body ts (at_most e c f) d h k =
    let m = (makes ts None e d).then in
    let u = makes ts None f m in
    let left = made_expr ts e d h k.0 in
    let right = made_expr ts f m left.is_sound (knows_after (grows_expr ts e d) f k.1) in
    let g = grows_expr ts f m in
    record {
      is_sound = right.is_sound;
      below = below_two (length u.then.cells) (makes ts None e d).cell u.cell (omega (arith, left.below, g.more_cells)) right.below;
      range = refl;
    }

owner_known_lem : (ts : Texts) (d : Items) (w : Option Owner) → KnowsOwner ts d w → owner_known (length d.premises) (owner_of ts d w) ≡ true
owner_known_lem ts d None k = refl
owner_known_lem ts d (Some o) k =
    grind (arith, first_below (λ p. spells (part_of ts p) o.premise.bytes) d.premises 0 (premise_named ts d o.premise.bytes) k)

-- a line that is not refused keeps a draft sound
sound_line : (ts : Texts) (t o : ℕ) (l : Line) (d : Items) → sound d ≡ true → line_fault ts d l ≡ None → sound (line_makes ts t o l d) ≡ true
sound_line ts t o blank d h f = h
sound_line ts t o (cell c n) d h f = sound-cell (Some (place_of t o n)) d h
sound_line ts t o (premise c n) d h f = sound-premise (place_of t o n) d h
sound_line ts t o (constraint w b) d h f =
    let k = constraint_knows ts d w b f in
    let u = helpers_of ts b d in
    let made = made_body ts b d h k.1 in
    subst (λ (z : Items). sound z ≡ true) (sym (body_makes_lem ts (owner_of ts d w) b d))
    (sound-adds (owner_of ts d w) (form_of ts b d) u made.is_sound (record {
      cells = made.below;
      owner = owner_more (length d.premises) (length u.premises) (owner_of ts d w) (grows-body ts b d).more_premises (owner_known_lem ts d w k.0);
      range = made.range;
    }))

pub built_sound : {ts : Texts} {ls : List Line} {d : Items} → Built ts ls d → sound d ≡ true
built_sound none = refl
built_sound {ts} (more {d = d} b t o l f st) = sound_line ts t o l d (built_sound b) f
