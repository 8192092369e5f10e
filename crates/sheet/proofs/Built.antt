-- What two texts are read as is built from their lines, and fits the limits of a plan.
use Rattle.std.proofs.Common.{◌≡◌, ℕ, ◌+◌, Bool, true, false, cond, ltb, List, [], ◌∷◌, ◌++◌, map, length, Some, None, Ok, Err, Option, Result, sym, refl, ap, ◌∙◌, subst, append_assoc, append-nil}
use Rattle.std.specs.List.{slice_get}
use Rattle.std.proofs.lemmas.Bool.{and_from}
use Rattle.words.specs.declared.Slip.{Slip}
use Rattle.words.specs.Words.{Spot, words_of}
use Rattle.grammar.specs.Tree.{Line}
use Rattle.grammar.specs.Parse.{Outcome, read, refused, parse_line}
use Rattle.faults.specs.declared.Fault.{Fault}
use Rattle.faults.specs.declared.Found.{Found}
use Rattle.plan.specs.Items.{Items, nothing, few, sound, fits}
use Rattle.plan.specs.Names.{Texts}
use Rattle.meaning.specs.Making.{line_makes}
use Rattle.meaning.specs.Checks.{line_fault}
use Rattle.meaning.specs.Building.{Built, none, more}
use Rattle.meaning.proofs.Sound.{built_sound}
use Rattle.sheet.specs.Reads.{limit}
use Rattle.sheet.specs.Sheets.{lines_of, limited, checked, parsed, worded, line_read, onward, lines_read, longest, too_long, and_then, sheets_read, tree_read, tree_worded, tree_of, trees_of}
use Rattle.sheet.proofs.Standing.{LineAt, Follow, lines_follow, read-stands}

ok_same : {X E : Type 0} (x y : X) → ◌≡◌ {A = Result X E} (Ok x) (Ok y) → x ≡ y
ok_same x y e = cc

-- ---- a line that is read

-- what passes a test of its size has that size
cond-few : (v : Bool) (d e : Items) (f : Found) → few d ≡ v → ◌≡◌ {A = Result Items Found} (cond v (Ok d) (Err f)) (Ok e) → (d ≡ e) × (few e ≡ true)
cond-few true d e f is h = let same = ok_same d e h in (same, subst (λ x. few x ≡ true) same is)
cond-few false d e f is h = cc

limited-few : (d e : Items) → limited d ≡ Ok e → (d ≡ e) × (few e ≡ true)
limited-few d e h = cond-few (few d) d e _ refl h

-- a line that is read has nothing wrong, is a tree, and has words
checked_none : (f : Option Found) (d e : Items) → checked f d ≡ Ok e → (f ≡ None) × (limited d ≡ Ok e)
checked_none (Some f) d e h = cc
checked_none None d e h = (refl, h)

parsed-read : (ts : Texts) (t o n : ℕ) (d e : Items) (r : Outcome) → parsed ts t o n d r ≡ Ok e → (l : Line) × ((r ≡ read l) × (checked (line_fault ts d l) (line_makes ts t o l d) ≡ Ok e))
parsed-read ts t o n d e (refused r) h = cc
parsed-read ts t o n d e (read l) h = (l, (refl, h))

worded_ok : (ts : Texts) (t o n : ℕ) (d e : Items) (r : Result (List Spot) (Slip × ℕ)) → worded ts t o n d r ≡ Ok e → (ws : List Spot) × ((r ≡ Ok ws) × (parsed ts t o n d (parse_line limit ws) ≡ Ok e))
worded_ok ts t o n d e (Err f) h = cc
worded_ok ts t o n d e (Ok ws) h = (ws, (refl, h))

-- what is known of a line that is read: its words, its tree, and what it makes
record LineGives (ts : Texts) (t o : ℕ) (d : Items) (bytes : List ℕ) (e : Items) : Type 0 where
  words : List Spot
  tree : Line
  words_are : words_of bytes ≡ Ok words
  reads_as : parse_line limit words ≡ read tree
  tree_is : tree_of bytes ≡ tree
  fine : line_fault ts d tree ≡ None
  makes_it : line_makes ts t o tree d ≡ e
  is_few : few e ≡ true

line_gives : (ts : Texts) (t o : ℕ) (d : Items) (bytes : List ℕ) (e : Items) → line_read ts t o d bytes ≡ Ok e → LineGives ts t o d bytes e
unfolding line_read tree_of
line_gives ts t o d bytes e h =
    let w = worded_ok ts t o (length bytes) d e (words_of bytes) h in
    let p = parsed-read ts t o (length bytes) d e (parse_line limit w.0) w.1.1 in
    let l = p.0 in
    let c = checked_none (line_fault ts d l) (line_makes ts t o l d) e p.1.1 in
    let f = limited-few (line_makes ts t o l d) e c.1 in
    record {
      words = w.0;
      tree = l;
      words_are = w.1.0;
      reads_as = p.1.0;
      tree_is = ap tree_worded w.1.0 ∙ ap tree_read p.1.0;
      fine = c.0;
      makes_it = f.0;
      is_few = f.1;
    }

-- ---- lines one after the other

-- lines build a plan that is within the limits
abbrev Builds : Texts → List Line → Items → Type 0
Builds ts ls d = Built ts ls d × (few d ≡ true)

-- a line that is read is one line more
line_builds : (ts : Texts) (t o : ℕ) (text bytes : List ℕ) (us : List Line) (d e : Items) → slice_get ts t ≡ Some text → LineAt text o bytes → Built ts us d → line_read ts t o d bytes ≡ Ok e → Builds ts (us ++ tree_of bytes ∷ []) e
line_builds ts t o text bytes us d e is at b h =
    let r = line_gives ts t o d bytes e h in
    let l = r.tree in
    let stands = read-stands ts t o text bytes r.words l is at r.words_are r.reads_as in
    let built : Built ts (us ++ l ∷ []) e = subst (Built ts (us ++ l ∷ [])) r.makes_it (more b t o l r.fine stands) in
    (subst (λ x. Built ts (us ++ x ∷ []) e) (sym r.tree_is) built, r.is_few)

onward_ok : (t k : ℕ) (r : Result Items Found) (go : Items → Result Items Fault) (e : Items) → onward t k r go ≡ Ok e → (m : Items) × ((r ≡ Ok m) × (go m ≡ Ok e))
onward_ok t k (Ok m) go e h = (m, (refl, h))
onward_ok t k (Err f) go e h = cc

-- lines that are read are lines more
lines_build : (ts : Texts) (t : ℕ) (text : List ℕ) → slice_get ts t ≡ Some text → (k o : ℕ) (ls : List (List ℕ)) → Follow text o ls → (us : List Line) (d e : Items) → Builds ts us d → lines_read ts t k o ls d ≡ Ok e → Builds ts (us ++ map tree_of ls) e
unfolding lines_read
lines_build ts t text is k o [] at us d e b h =
    subst (λ x. Builds ts x e) (sym (append-nil us)) (subst (Builds ts us) (ok_same d e h) b)
lines_build ts t text is k o (l ∷ ls) at us d e b h =
    let s = onward_ok t k (line_read ts t o d l) (λ m. lines_read ts t (k + 1) (o + length l + 1) ls m) e h in
    let first = line_builds ts t o text l us d s.0 is at.0 b.0 s.1.0 in
    subst (λ x. Builds ts x e) (append_assoc us (tree_of l ∷ []) (map tree_of ls))
    (lines_build ts t text is (k + 1) (o + length l + 1) ls at.1 (us ++ tree_of l ∷ []) s.0 e first s.1.1)

-- ---- two texts

-- texts that are read are not too long
cond_ok : (v : Bool) (f : Fault) (r : Result Items Fault) (d : Items) → ◌≡◌ {A = Result Items Fault} (cond v (Err f) r) (Ok d) → r ≡ Ok d
cond_ok true f r d h = cc
cond_ok false f r d h = h

then_ok : (r : Result Items Fault) (go : Items → Result Items Fault) (e : Items) → and_then r go ≡ Ok e → (m : Items) × ((r ≡ Ok m) × (go m ≡ Ok e))
then_ok (Ok m) go e h = (m, (refl, h))
then_ok (Err f) go e h = cc

-- the chip text's lines, then the project text's
sheets_build : (chip project : List ℕ) (d : Items) → sheets_read chip project ≡ Ok d → Builds (chip ∷ project ∷ []) (trees_of chip project) d
unfolding sheets_read trees_of
sheets_build chip project d h =
    let ts : Texts = chip ∷ project ∷ [] in
    let chip-read = lines_read ts 0 1 0 (lines_of chip) nothing in
    let go : Items → Result Items Fault = λ e. lines_read ts 1 1 0 (lines_of project) e in
    let short = cond_ok (ltb longest (length project)) (too_long 1) (and_then chip-read go) d (cond_ok (ltb longest (length chip)) (too_long 0) _ d h) in
    let s = then_ok chip-read go d short in
    let first = lines_build ts 0 chip refl 1 0 (lines_of chip) (lines_follow chip) [] nothing s.0 (none, refl) s.1.0 in
    lines_build ts 1 project refl 1 0 (lines_of project) (lines_follow project) (map tree_of (lines_of chip)) s.0 d first s.1.1

-- what two texts are read as is built from the trees of their lines
pub sheets_built : (chip project : List ℕ) (d : Items) → sheets_read chip project ≡ Ok d → Built (chip ∷ project ∷ []) (trees_of chip project) d
sheets_built chip project d h = (sheets_build chip project d h).0

-- and fits the limits of a plan
pub sheets_fit : (chip project : List ℕ) (d : Items) → sheets_read chip project ≡ Ok d → fits d ≡ true
sheets_fit chip project d h =
    let b = sheets_build chip project d h in
    and_from (few d) (sound d) b.1 (built_sound b.0)
