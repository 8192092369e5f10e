-- The order of facts: what tells at least what, in every lawful kind.
use Rattle.std.proofs.Common.{◌≡◌, true, false, ℤ, ◌≤ℤ◌, sym, ap, ◌∙◌, arith}
use Rattle.std.proofs.lemmas.Int.{ints, clamps, by_lt_z}
use Rattle.statements.specs.Numbers.{top, bottom, InU, raised, lowered}
use Rattle.statements.specs.Between.{between}
use Rattle.statements.specs.declared.statement.Statement.TheVariants.{Between}
use Rattle.std.proofs.lemmas.Bool.{and_from, and_parts}
use Rattle.statements.proofs.Tests.{inside_made, inside_of, inside_below, inside_above}
use Rattle.statements.proofs.Searches.{lowest_le, highest_ge, lowest_in, highest_in, lowest-some, highest-some, lowest_none, highest_none, lowest_mono, highest_mono, allows_none_no, allows_none_of, allows_none_mono}
use Rattle.facts.specs.Model.{Model, Tells}
use Rattle.facts.specs.Laws.{Laws}
use Rattle.facts.specs.Derived.{low, high, none, start, dead}

module _ {F : Type 0} (m : Model F) (l : Laws m) where
  -- ---- telling at least

  pub tells-refl : (f : F) → Tells m f f
  tells-refl f = l.meet_idem f

  pub tells_trans : (f g h : F) → Tells m f g → Tells m g h → Tells m f h
  tells_trans f g h p q = ap (λ z. m.meet z h) (sym p) ∙ l.meet_assoc f g h ∙ ap (m.meet f) q ∙ p

  pub tells_antisym : (f g : F) → Tells m f g → Tells m g f → f ≡ g
  tells_antisym f g p q = sym p ∙ l.meet_comm f g ∙ q

  -- A merge tells at least each part, and is the least that does.
  pub meet-tells_left : (f g : F) → Tells m (m.meet f g) f
  meet-tells_left f g = l.meet_comm (m.meet f g) f ∙ sym (l.meet_assoc f f g) ∙ ap (λ z. m.meet z g) (l.meet_idem f)

  pub meet-tells_right : (f g : F) → Tells m (m.meet f g) g
  meet-tells_right f g = l.meet_assoc f g g ∙ ap (m.meet f) (l.meet_idem g)

  pub meet-least : (h f g : F) → Tells m h f → Tells m h g → Tells m h (m.meet f g)
  meet-least h f g p q = sym (l.meet_assoc h f g) ∙ ap (λ z. m.meet z g) p ∙ q

  pub meet_mono : (f f' g g' : F) → Tells m f f' → Tells m g g' → Tells m (m.meet f g) (m.meet f' g')
  meet_mono f f' g g' p q =
      meet-least (m.meet f g) f' g' (tells_trans (m.meet f g) f f' (meet-tells_left f g) p) (tells_trans (m.meet f g) g g' (meet-tells_right f g) q)

  -- What tells at least g allows no more than g.
  pub tells-allows : (f g : F) (n : ℤ) → Tells m f g → m.allows f n ≡ true → m.allows g n ≡ true
  tells-allows f g n p h = (and_parts (m.allows f n) (m.allows g n) (sym (l.meet_allows f g n) ∙ ap (λ z. m.allows z n) p ∙ h)).1

  pub meet_allows_both : (f g : F) (n : ℤ) → m.allows f n ≡ true → m.allows g n ≡ true → m.allows (m.meet f g) n ≡ true
  meet_allows_both f g n p q = l.meet_allows f g n ∙ and_from _ _ p q

  -- ---- lowest and highest

  pub low_le : (f : F) (n : ℤ) → m.allows f n ≡ true → low m f ≤ℤ n
  unfolding low
  low_le f n h = lowest_le (m.allows f) (l.allows_within f) n h

  pub high_ge : (f : F) (n : ℤ) → m.allows f n ≡ true → n ≤ℤ high m f
  unfolding high
  high_ge f n h = highest_ge (m.allows f) (l.allows_within f) n h

  pub low_in : (f : F) → InU (low m f)
  unfolding low
  low_in f = lowest_in (m.allows f) (l.allows_within f)

  pub high_in : (f : F) → InU (high m f)
  unfolding high
  high_in f = highest_in (m.allows f) (l.allows_within f)

  pub low_mono : (f g : F) → Tells m f g → low m g ≤ℤ low m f
  unfolding low
  low_mono f g p = lowest_mono (m.allows f) (m.allows g) (l.allows_within f) (l.allows_within g) (λ n. tells-allows f g n p)

  pub high_mono : (f g : F) → Tells m f g → high m f ≤ℤ high m g
  unfolding high
  high_mono f g p = highest_mono (m.allows f) (m.allows g) (l.allows_within f) (l.allows_within g) (λ n. tells-allows f g n p)

  -- ---- none

  pub none_no : (f : F) (n : ℤ) → m.allows f n ≡ true → none m f ≡ false
  unfolding none
  none_no f n h = allows_none_no (m.allows f) (l.allows_within f) n h

  pub none_of : (f : F) → none m f ≡ true → (n : ℤ) → m.allows f n ≡ false
  unfolding none
  none_of f h = allows_none_of (m.allows f) (l.allows_within f) h

  pub none_mono : (f g : F) → Tells m f g → none m g ≡ true → none m f ≡ true
  unfolding none
  none_mono f g p = allows_none_mono (m.allows f) (m.allows g) (l.allows_within f) (l.allows_within g) (λ n. tells-allows f g n p)

  -- What allows some number allows its lowest and its highest.
  pub low-allowed : (f : F) → none m f ≡ false → m.allows f (low m f) ≡ true
  unfolding low none
  low-allowed f h = lowest-some (m.allows f) (l.allows_within f) h

  pub high-allowed : (f : F) → none m f ≡ false → m.allows f (high m f) ≡ true
  unfolding high none
  high-allowed f h = highest-some (m.allows f) (l.allows_within f) h

  pub low_none : (f : F) → none m f ≡ true → low m f ≡ top
  unfolding low none
  low_none f h = lowest_none (m.allows f) (l.allows_within f) (none_of f h)

  pub high_none : (f : F) → none m f ≡ true → high m f ≡ bottom
  unfolding high none
  high_none f h = highest_none (m.allows f) (l.allows_within f) (none_of f h)

  -- ---- the facts of Betweens

  -- Ends that lie further in tell at least as much.
  pub between_mono : (lo hi lo' hi' : ℤ) → lo' ≤ℤ lo → hi ≤ℤ hi' → Tells m (m.stated (Between lo hi)) (m.stated (Between lo' hi'))
  between_mono lo hi lo' hi' p q =
      l.narrower_tells lo hi lo' hi' (λ n e. let i = inside_of (raised lo) (lowered hi) n e in inside_made (raised lo') (lowered hi') n (omega (arith, ints, clamps)) (omega (arith, ints, clamps)))

  pub between-allows : (lo hi n : ℤ) → InU n → lo ≤ℤ n → n ≤ℤ hi → m.allows (m.stated (Between lo hi)) n ≡ true
  between-allows lo hi n u p q =
      l.stated_allows (Between lo hi) n (inside_made (raised lo) (lowered hi) n (let b = u.0 in omega (arith, ints, clamps)) (let b = u.1 in omega (arith, ints, clamps)))

  pub start-allows : (n : ℤ) → InU n → m.allows (start m) n ≡ true
  unfolding start
  start-allows n u = between-allows bottom top n u u.0 u.1

  pub dead-tells : (f : F) → Tells m (dead m) f
  unfolding dead
  dead-tells f =
      l.empty_tells top bottom (λ n. empty n) f
    where
      empty : (n : ℤ) → between top bottom n ≡ false
      empty n = by_lt_z n top (λ h. inside_below top bottom n h) (λ h. inside_above top bottom n (omega (arith, ints)))

  pub tells-dead : (f : F) → Tells m f (dead m) → f ≡ dead m
  tells-dead f p = tells_antisym f (dead m) p (dead-tells f)
