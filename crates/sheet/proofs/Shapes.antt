-- Constraints of fixed shape against the reading of the whole line.
use Rattle.std.proofs.Common.{◌≡◌, ℕ, ◌%◌, ◌^◌, ◌<◌, ◌≤◌, min, true, false, ltb, List, [], ◌∷◌, ℤ, Some, None, Ok, Err, Option, Result, sym, refl, ap, ◌∙◌, subst, subst₂, mod-eq_of_lt, arith, le-ltb, lt-ltb}
use mathlib.Core.HLevel.{is_prop→PathP}
use native.Mathlib.Bridge.{le_prop}
use Rattle.words.specs.declared.Keyword.TheVariants.{To}
use Rattle.words.specs.declared.Placed.{Placed}
use Rattle.words.specs.Words.{reserved, meant}
use Rattle.grammar.specs.Tree.{Name, Number, Owner, Body, within, aligned, apart, Line, constraint, at, number_spot, name_spot}
use Rattle.grammar.specs.Parse.{Rest, rest, whole, after_in, after_align, after_apart, read, refused, wrong, parse, Outcome}
use Rattle.statements.specs.Aligned.{Made}
use Rattle.statements.specs.declared.residue.Residue.{Residue}
use Rattle.statements.specs.declared.statement.Statement.TheVariants.{Between, Aligned}
use Rattle.plan.specs.declared.constraint.Form.{Form}
use Rattle.plan.specs.declared.constraint.Form.TheVariants.{State, Apart}
use Rattle.plan.specs.Items.{Items}
use Rattle.faults.specs.declared.Found.{Found}
use Rattle.faults.specs.declared.Problem.TheVariants.{Range}
use Rattle.meaning.specs.Making.{adds, body_makes, cell_named, aligned_to, power_fine, rest_small}
use Rattle.meaning.specs.Checks.{first, at as found_at, body_fault, cell_fault, range_fault}
use Rattle.sheet.specs.Growing.{after_name}
use Rattle.sheet.specs.declared.next.Name.{Name as NameRead}
use Rattle.sheet.specs.declared.next.Number.{Number as NumberRead}
use Rattle.sheet.specs.declared.reading.Stop.{Stop}
use Rattle.sheet.specs.declared.reading.Stop.TheVariants.{Memory}
use Rattle.sheet.specs.Progress.{Progress, made, further, Pushed}
use Rattle.sheet.specs.Next.{tree_name, tree_number, EndTells}
use Rattle.sheet.specs.Reads.{limit, spots, Ends}
use Rattle.sheet.specs.Forms.{Leaves, FormTells}
use Rattle.sheet.proofs.Same.{first_assoc, first_none}
use Rattle.sheet.proofs.Steps.{says}

pub out_of_memory : (r : Stop) (o : Outcome) → r ≡ Memory → Ends r o
out_of_memory r o e = subst (λ x. Ends x o) (sym e) tt

-- a word where the line has to end
not_ended : (r : Stop) (l : Line) (ws : List Placed) → EndTells (Err r) ws → Ends r (parse limit (rest (whole l)) (spots ws))
not_ended r l [] t = absurd t
not_ended r l (w ∷ ws) t = subst (λ x. Ends x (refused (wrong w.column))) (sym t) refl

-- a constraint that was pushed, after its names were looked up
pub leaves : (q : Option ℕ) (b : Body) (p m e : Progress) (f : Form) → m ≡ further p (body_fault p.texts p.items b) → body_makes p.texts q b p.items ≡ adds q f p.items → e ≡ made m (adds q f m.items) → Leaves q b p e
leaves q b p m e f mid makes end = record {
  texts = ap (λ x. x.texts) end ∙ ap (λ x. x.texts) mid;
  found = ap (λ x. x.found) end ∙ ap (λ x. x.found) mid;
  items = λ _. ap (λ x. x.items) end ∙ ap (λ x. adds q f x.items) mid ∙ sym makes;
}

-- a form of fixed shape whose constraint was pushed, or found no memory
pub pushed : (after : Option Owner → Name → ℕ → Rest) (r : Result (Unit {0}) Stop) (q : Option ℕ) (n : Name) (p m e : Progress) (ws : List Placed) (f : Form)
    → Pushed r (adds q f m.items) m e
    → ((o : Option Owner) (c : ℕ) → (b : Body) × ((parse limit (rest (after o n c)) (spots ws) ≡ read (constraint o b)) × ((m ≡ further p (body_fault p.texts p.items b)) × (body_makes p.texts q b p.items ≡ adds q f p.items))))
    → FormTells after r q n p ws e
pushed after (Ok u) q n p m e ws f end all = λ o c. let w = all o c in (w.0, (w.1.0, leaves q w.0 p m e f w.1.1.0 w.1.1.1 end))
pushed after (Err r) q n p m e ws f end all = λ o c. out_of_memory r (parse limit (rest (after o n c)) (spots ws)) end

-- `LO to HI` after `N in`
pub within_read : (ws us vs xs : List Placed) (lo hi : NumberRead) (w : Placed) → spots ws ≡ number_spot (tree_number lo) ∷ spots us → us ≡ w ∷ vs → meant w.token ≡ reserved To → spots vs ≡ number_spot (tree_number hi) ∷ spots xs → xs ≡ [] → (o : Option Owner) (n : Name) (c : ℕ) → parse limit (rest (after_in o n c)) (spots ws) ≡ read (constraint o (within n c (tree_number lo) w.column (tree_number hi)))
within_read ws us vs xs lo hi w a b to d end o n c =
    let high = d ∙ ap (λ s. number_spot (tree_number hi) ∷ spots s) end in
    let middle = ap spots b ∙ (λ i. at w.column (to i) ∷ high i) in
    ap (parse limit (rest (after_in o n c))) (a ∙ ap (λ s. number_spot (tree_number lo) ∷ s) middle)

-- `K R` after `N align`
pub align-read : (ws us vs : List Placed) (k r : NumberRead) → spots ws ≡ number_spot (tree_number k) ∷ spots us → spots us ≡ number_spot (tree_number r) ∷ spots vs → vs ≡ [] → (o : Option Owner) (n : Name) (c : ℕ) → parse limit (rest (after_align o n c)) (spots ws) ≡ read (constraint o (aligned n c (tree_number k) (tree_number r)))
align-read ws us vs k r a b end o n c =
    let last = b ∙ ap (λ s. number_spot (tree_number r) ∷ spots s) end in
    ap (parse limit (rest (after_align o n c))) (a ∙ ap (λ s. number_spot (tree_number k) ∷ s) last)

-- `D B E` after `A apart`
module _ (ws us vs xs : List Placed) (d : NumberRead) (b : NameRead) (e : NumberRead) (f : spots ws ≡ number_spot (tree_number d) ∷ spots us) (g : spots us ≡ name_spot (tree_name b) ∷ spots vs) (h : spots vs ≡ number_spot (tree_number e) ∷ spots xs) (o : Option Owner) (a : Name) (c : ℕ) where
  abbrev body : Body
  body = apart a c (tree_number d) (tree_name b) (tree_number e)

  pub apart-whole : parse limit (rest (after_apart o a c)) (spots ws) ≡ parse limit (rest (whole (constraint o body))) (spots xs)
  apart-whole =
      let last = g ∙ ap (λ s. name_spot (tree_name b) ∷ s) h in
      ap (parse limit (rest (after_apart o a c))) (f ∙ ap (λ s. number_spot (tree_number d) ∷ s) last)

  pub apart-read : xs ≡ [] → parse limit (rest (after_apart o a c)) (spots ws) ≡ read (constraint o body)
  apart-read end = apart-whole ∙ ap (λ s. parse limit (rest (whole (constraint o body))) (spots s)) end

  pub apart-long : (r : Stop) → EndTells (Err r) xs → Ends r (parse limit (rest (after_apart o a c)) (spots ws))
  apart-long r t = says r apart-whole (not_ended r (constraint o body) xs t)

-- the constraints that the forms of fixed shape make, from what the code has at hand
pub between_made : (q : Option ℕ) (d : Items) {c k : ℕ} {a x b y : ℤ} → k ≡ c → a ≡ x → b ≡ y → adds q (State c (Between a b)) d ≡ adds q (State k (Between x y)) d
between_made q d cell lo hi = λ j. adds q (State (sym cell j) (Between (lo j) (hi j))) d

pub apart_made : (q : Option ℕ) (a b : Name) (x y : ℕ) (p m : Progress) {i j : ℕ} → m ≡ after_name a p → i ≡ cell_named p.texts p.items a.bytes → j ≡ cell_named m.texts m.items b.bytes → adds q (Apart (cell_named p.texts p.items a.bytes) x (cell_named p.texts p.items b.bytes) y) p.items ≡ adds q (Apart i x j y) p.items
apart_made q a b x y p m mid e f = let g = f ∙ ap (λ z. cell_named z.texts z.items b.bytes) mid in λ k. adds q (Apart (sym e k) x (sym g k) y) p.items

-- two names, one after the other
pub names_two : (a b : Name) (p m u : Progress) → m ≡ after_name a p → u ≡ after_name b m → u ≡ further p (first (cell_fault p.texts p.items a) (cell_fault p.texts p.items b))
names_two a b p m u mid end =
    end ∙ ap (after_name b) mid
    ∙ ap (λ f. record { texts = p.texts; items = p.items; found = f }) (first_assoc p.found (cell_fault p.texts p.items a) (cell_fault p.texts p.items b))

-- a power or a rest outside its range
not_some : (a : Option Found) (f : Found) → first a (Some f) ≡ None → ⊥
not_some None f e = cc
not_some (Some g) f e = cc

pub range_noted : (q : Option ℕ) (n : Name) (c : ℕ) (k r : Number) (p m e : Progress) (i : ℕ) → m ≡ after_name n p → e ≡ further m (found_at Range i) → range_fault k r ≡ found_at Range i → Leaves q (aligned n c k r) p e
range_noted q n c k r p m e i mid end wide =
    let f = cell_fault p.texts p.items n in
    record {
      texts = ap (λ x. x.texts) end ∙ ap (λ x. x.texts) mid;
      found = ap (λ x. x.found) end ∙ ap (λ x. first x.found (found_at Range i)) mid ∙ first_assoc p.found f (found_at Range i) ∙ ap (λ x. first p.found (first f x)) (sym wide);
      items = λ none. absurd (not_some f (record { problem = Range; column = i }) (ap (first f) (sym wide) ∙ none));
    }

pub range_large : (k r : Number) → 24 < k.value → range_fault k r ≡ found_at Range k.column
range_large k r h = let t : ltb 24 k.value ≡ true = lt-ltb 24 k.value h in rw t refl

pub range_rest : (k r : Number) → k.value ≤ 24 → (k.value ≤ 24 → r.value < 2 ^ k.value → ⊥) → range_fault k r ≡ found_at Range r.column
range_rest k r h g =
    let t : ltb 24 k.value ≡ false = le-ltb 24 k.value h in
    let u : ltb r.value (2 ^ k.value) ≡ false = le-ltb r.value (2 ^ k.value) (not_below r.value (2 ^ k.value) (g h)) in
    rw (t, u) refl
  where
    not_below : (x y : ℕ) → (x < y → ⊥) → y ≤ x
    not_below x y f = omega (arith, f)

range_fine : (k r : Number) → k.value ≤ 24 → r.value < 2 ^ k.value → range_fault k r ≡ None
range_fine k r h g =
    let t : ltb 24 k.value ≡ false = le-ltb 24 k.value h in
    let u : ltb r.value (2 ^ k.value) ≡ true = lt-ltb r.value (2 ^ k.value) g in
    rw (t, u) refl

residue_ext : (a b : Residue) → a.k ≡ b.k → a.r ≡ b.r → a ≡ b
residue_ext a b p q = λ i. record { k = p i; r = q i; fine = is_prop→PathP (λ j. p j ≤ 24) (λ j. le_prop) a.fine b.fine i; below = is_prop→PathP (λ j. q j < 2 ^ p j) (λ j. le_prop) a.below b.below i }

-- a power and a rest within their ranges
module _ (k r : Number) (a : Residue) (made : Made k.value r.value (Some a)) where
  fine_power : k.value ≤ 24
  fine_power = omega (arith, made.0, a.fine)

  small_rest : r.value < 2 ^ k.value
  small_rest = subst₂ (λ x y. x < 2 ^ y) made.1 made.0 a.below

  aligned_is : Aligned a ≡ aligned_to k.value r.value
  aligned_is =
      let same : min k.value 24 ≡ k.value = omega (arith, fine_power) in
      ap Aligned (residue_ext a (record { k = min k.value 24; r = r.value % 2 ^ min k.value 24; fine = power_fine k.value; below = rest_small k.value r.value })
      (made.0 ∙ sym same)
      (made.1 ∙ sym (mod-eq_of_lt small_rest) ∙ ap (λ x. r.value % 2 ^ x) (sym same)))

  pub align_made : (q : Option ℕ) (n : Name) (p : Progress) {c : ℕ} → c ≡ cell_named p.texts p.items n.bytes → adds q (State (cell_named p.texts p.items n.bytes) (aligned_to k.value r.value)) p.items ≡ adds q (State c (Aligned a)) p.items
  align_made q n p cell = λ j. adds q (State (sym cell j) (sym aligned_is j)) p.items

  pub align-named : (n : Name) (p m : Progress) → m ≡ after_name n p → m ≡ further p (first (cell_fault p.texts p.items n) (range_fault k r))
  align-named n p m mid =
      let f = cell_fault p.texts p.items n in
      mid ∙ ap (λ x. record { texts = p.texts; items = p.items; found = first p.found x }) (sym (first_none f) ∙ ap (first f) (sym (range_fine k r fine_power small_rest)))
