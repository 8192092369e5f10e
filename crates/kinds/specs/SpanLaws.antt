-- Span is a lawful kind, and exact.
use Rattle.std.specs.Prelude.{◌≡◌, ◌<◌, Bool, true, false, ◌&&◌, ◌≢◌, ℤ, pos, negsuc, ◌+ℤ◌, ◌-ℤ◌, ◌≤ℤ◌, ◌<ℤ◌, Some, None, Option, int_le, refl}
use Rattle.std.proofs.Common.{Decides, sym, ap, ◌∙◌, arith}
use Rattle.std.specs.Cmp.{both_ways}
use mathlib.Core.HLevel.{is_prop→PathP}
use Rattle.std.proofs.Math.Dec.{T_prop}
use Rattle.std.specs.Int.{int_max, int_min}
use Rattle.std.specs.Ordering.{int_eq}
use Rattle.kinds.specs.Absence.{option_eq-decides}
use Rattle.std.proofs.lemmas.Int.{ints, clamps, by_lt_z}
use Rattle.std.proofs.lemmas.Bool.Decides.{Decides-and, Decides-int_eq}
use Rattle.statements.specs.Between.{between}
use Rattle.statements.specs.Numbers.{top, bottom, inside, Within, raised, lowered}
use Rattle.statements.specs.Search.{count, lowest, highest, allows_none}
use Rattle.statements.specs.Statements.{allowed}
use Rattle.statements.specs.declared.statement.Statement.{Statement}
use Rattle.statements.specs.declared.statement.Statement.TheVariants.{Between}
use Rattle.std.proofs.lemmas.Bool.{and_from, and_parts, and_right}
use Rattle.statements.proofs.Tests.{test_cases, test_clash, le_of, le_no_of, inside_made, inside_of, inside_below, inside_above}
use Rattle.statements.proofs.Betweens.{inside-least, inside_greatest}
use Rattle.statements.proofs.Searches.{lowest_le, highest_ge, lowest-some, highest-some, lowest_none, highest_none, allows_none_of, lowest_is, highest_is}
use Rattle.statements.proofs.Statements.{allowed_within}
use Rattle.facts.specs.Laws.{Laws, Exact}
use Rattle.facts.specs.Derived.{low, high}
use Rattle.facts.proofs.Extensional.{ext_assoc, ext_comm, ext_idem, ext_tells}
use Rattle.kinds.specs.Span.{span_of, span_allows, cut_by, cut, span_stated, span_meet, span_equal, span_size, span_model}
use Rattle.kinds.specs.declared.ends.Ends.{Ends}
use Rattle.kinds.specs.declared.span.Span.{Span}

-- ---- spans are determined by their numbers

le_prop : (a b : ℤ) → IsProp (a ≤ℤ b)
le_prop a b p q = λ i. record { le = T_prop (int_le a b) p.le q.le i }

pub ends_ext : (e d : Ends) → e.lo ≡ d.lo → e.hi ≡ d.hi → e ≡ d
ends_ext e d p q = λ i. record {
  lo = p i;
  hi = q i;
  low = is_prop→PathP (λ j. bottom ≤ℤ p j) (λ j. le_prop bottom (p j)) e.low d.low i;
  order = is_prop→PathP (λ j. p j ≤ℤ q j) (λ j. le_prop (p j) (q j)) e.order d.order i;
  high = is_prop→PathP (λ j. q j ≤ℤ top) (λ j. le_prop (q j) top) e.high d.high i;
}

-- A span allows its own ends.
lo_allowed : (e : Ends) → inside e.lo e.hi e.lo ≡ true
lo_allowed e = inside_made e.lo e.hi e.lo (omega (arith, ints)) e.order

hi_allowed : (e : Ends) → inside e.lo e.hi e.hi ≡ true
hi_allowed e = inside_made e.lo e.hi e.hi e.order (omega (arith, ints))

pub span_ext : (f g : Span) → ((n : ℤ) → span_allows f n ≡ true → span_allows g n ≡ true) → ((n : ℤ) → span_allows g n ≡ true → span_allows f n ≡ true) → f ≡ g
span_ext f g = go f.0 g.0
  where
    go : (o r : Option Ends) → ((n : ℤ) → span_allows (span_of o) n ≡ true → span_allows (span_of r) n ≡ true) → ((n : ℤ) → span_allows (span_of r) n ≡ true → span_allows (span_of o) n ≡ true) → span_of o ≡ span_of r
    go (Some e) (Some d) p q =
        let a = inside_of d.lo d.hi e.lo (p e.lo (lo_allowed e)) in
        let b = inside_of d.lo d.hi e.hi (p e.hi (hi_allowed e)) in
        let a' = inside_of e.lo e.hi d.lo (q d.lo (lo_allowed d)) in
        let b' = inside_of e.lo e.hi d.hi (q d.hi (hi_allowed d)) in
        ap (λ x. span_of (Some x)) (ends_ext e d (omega (arith, ints)) (omega (arith, ints)))
    go (Some e) None p q = test_clash (p e.lo (lo_allowed e)) refl
    go None (Some d) p q = test_clash (q d.lo (lo_allowed d)) refl
    go None None p q = refl

span_within : (f : Span) → Within (span_allows f)
span_within f = go f.0
  where
    go : (o : Option Ends) → Within (span_allows (span_of o))
    go (Some e) n h = let p = inside_of e.lo e.hi n h in (omega (arith, ints), omega (arith, ints))
    go None n h = test_clash h refl

-- ---- cut

cut_by-allows : (lo hi n : ℤ) (b : Bool) (e : int_le (raised lo) (lowered hi) ≡ b) → span_allows (cut_by lo hi b e) n ≡ between lo hi n
unfolding cut_by
cut_by-allows lo hi n true e = refl
cut_by-allows lo hi n false e =
    let h = le_no_of (raised lo) (lowered hi) e in
    by_lt_z n (raised lo) (λ l. sym (inside_below (raised lo) (lowered hi) n l)) (λ l. sym (inside_above (raised lo) (lowered hi) n (omega (arith, ints))))

pub cut-allows : (lo hi n : ℤ) → span_allows (cut lo hi) n ≡ between lo hi n
cut-allows lo hi n = cut_by-allows lo hi n (int_le (raised lo) (lowered hi)) refl

cut_by_is : (lo hi : ℤ) (e : Ends) → e.lo ≡ raised lo → e.hi ≡ lowered hi → (b : Bool) (t : int_le (raised lo) (lowered hi) ≡ b) → span_of (Some e) ≡ cut_by lo hi b t
unfolding cut_by
cut_by_is lo hi e p q true t = ap (λ x. span_of (Some x)) (ends_ext e _ p q)
cut_by_is lo hi e p q false t = let h = le_no_of (raised lo) (lowered hi) t in absurd (omega (arith, ints))

pub cut_is : (lo hi : ℤ) (e : Ends) → e.lo ≡ raised lo → e.hi ≡ lowered hi → span_of (Some e) ≡ cut lo hi
cut_is lo hi e p q = cut_by_is lo hi e p q _ refl

cut_by_none : (lo hi : ℤ) → lowered hi <ℤ raised lo → (b : Bool) (t : int_le (raised lo) (lowered hi) ≡ b) → span_of None ≡ cut_by lo hi b t
unfolding cut_by
cut_by_none lo hi h true t = let k = le_of (raised lo) (lowered hi) t in absurd (omega (arith, ints))
cut_by_none lo hi h false t = refl

pub cut_none : (lo hi : ℤ) → lowered hi <ℤ raised lo → span_of None ≡ cut lo hi
cut_none lo hi h = cut_by_none lo hi h _ refl

-- ---- what is stated

span-sound : (s : Statement) (n : ℤ) → allowed s n ≡ true → span_allows (span_stated s) n ≡ true
span-sound s n h =
    let a = allowed s in
    let w = allowed_within s in
    let u = w n h in
    let p = lowest_le a w n h in
    let q = highest_ge a w n h in
    cut-allows (lowest a) (highest a) n ∙ inside_made (raised (lowest a)) (lowered (highest a)) n (omega (arith, ints, clamps)) (omega (arith, ints, clamps))

pub span_exact : Exact span_model
span_exact lo hi n =
    both_ways (span_allows (span_stated (Between lo hi)) n) (between lo hi n)
    (λ h.
    let i = inside_of (raised l) (lowered g) n (sym (cut-allows l g n) ∙ h) in
    test_cases (allows_none a)
    (λ e. let p = lowest_none a w (allows_none_of a w e) in let q = highest_none a w (allows_none_of a w e) in absurd (omega (arith, ints, clamps)))
    (λ e.
    let p = inside_of (raised lo) (lowered hi) l (lowest-some a w e) in
    let q = inside_of (raised lo) (lowered hi) g (highest-some a w e) in
    inside_made (raised lo) (lowered hi) n (omega (arith, ints, clamps)) (omega (arith, ints, clamps))))
    (span-sound (Between lo hi) n)
  where
    a : ℤ → Bool
    a = between lo hi

    w : Within (between lo hi)
    w = allowed_within (Between lo hi)

    l : ℤ
    l = lowest (between lo hi)

    g : ℤ
    g = highest (between lo hi)

-- A Between's fact is its cut.
pub span_stated-between : (lo hi : ℤ) → span_stated (Between lo hi) ≡ cut lo hi
span_stated-between lo hi =
    span_ext (span_stated (Between lo hi)) (cut lo hi) (λ n h. cut-allows lo hi n ∙ sym (span_exact lo hi n) ∙ h) (λ n h. span_exact lo hi n ∙ sym (cut-allows lo hi n) ∙ h)

-- ---- merge

span_meet-allows : (f g : Span) (n : ℤ) → span_allows (span_meet f g) n ≡ (span_allows f n && span_allows g n)
span_meet-allows f g = go f.0 g.0
  where
    go : (o r : Option Ends) (n : ℤ) → span_allows (span_meet (span_of o) (span_of r)) n ≡ (span_allows (span_of o) n && span_allows (span_of r) n)
    go (Some e) (Some d) n =
        let lo = int_max e.lo d.lo in
        let hi = int_min e.hi d.hi in
        cut-allows lo hi n ∙ both_ways (between lo hi n) (inside e.lo e.hi n && inside d.lo d.hi n)
        (λ h.
        let p = inside_of (raised lo) (lowered hi) n h in
        and_from _ _ (inside_made e.lo e.hi n (omega (arith, ints, clamps)) (omega (arith, ints, clamps))) (inside_made d.lo d.hi n (omega (arith, ints, clamps)) (omega (arith, ints, clamps))))
        (λ h.
        let b = and_parts (inside e.lo e.hi n) (inside d.lo d.hi n) h in
        let p = inside_of e.lo e.hi n b.0 in
        let q = inside_of d.lo d.hi n b.1 in
        inside_made (raised lo) (lowered hi) n (omega (arith, ints, clamps)) (omega (arith, ints, clamps)))
    go (Some e) None n = sym (and_right (inside e.lo e.hi n) false refl)
    go None r n = refl

span_narrower : (lo hi lo' hi' : ℤ) → ((n : ℤ) → between lo hi n ≡ true → between lo' hi' n ≡ true) → span_meet (span_stated (Between lo hi)) (span_stated (Between lo' hi')) ≡ span_stated (Between lo hi)
span_narrower lo hi lo' hi' h =
    ext_tells span_model span_meet-allows span_ext (span_stated (Between lo hi)) (span_stated (Between lo' hi')) (λ n e. span_exact lo' hi' n ∙ h n (sym (span_exact lo hi n) ∙ e))

span_empty : (lo hi : ℤ) → ((n : ℤ) → between lo hi n ≡ false) → (f : Span) → span_meet (span_stated (Between lo hi)) f ≡ span_stated (Between lo hi)
span_empty lo hi h f = ext_tells span_model span_meet-allows span_ext (span_stated (Between lo hi)) f (λ n e. test_clash e (span_exact lo hi n ∙ h n))

-- ---- size

count_is : (z : ℤ) → pos 0 ≤ℤ z → pos (count z) ≡ z
count_is (pos n) h = refl
count_is (negsuc n) h = absurd h.le

cut-size : (e d : Ends) (b : Bool) (t : int_le (raised (int_max e.lo d.lo)) (lowered (int_min e.hi d.hi)) ≡ b) → cut_by (int_max e.lo d.lo) (int_min e.hi d.hi) b t ≢ span_of (Some e) → span_size (cut_by (int_max e.lo d.lo) (int_min e.hi d.hi) b t) < span_size (span_of (Some e))
unfolding cut_by
cut-size e d true t ne =
    let lo = raised (int_max e.lo d.lo) in
    let hi = lowered (int_min e.hi d.hi) in
    let up = le_of lo hi t in
    let whole = count_is ((e.hi +ℤ pos 1) -ℤ e.lo) (omega (arith, ints)) in
    let part = count_is ((hi +ℤ pos 1) -ℤ lo) (omega (arith, ints)) in
    by_lt_z e.lo d.lo
    (λ h. omega (arith, ints, clamps))
    (λ h. by_lt_z d.hi e.hi
    (λ k. omega (arith, ints, clamps))
    (λ k. absurd (ne (ap (λ x. span_of (Some x)) (ends_ext _ e (omega (arith, ints, clamps)) (omega (arith, ints, clamps)))))))
cut-size e d false t ne = let whole = count_is ((e.hi +ℤ pos 1) -ℤ e.lo) (omega (arith, ints)) in omega (arith, ints)

span_size_falls : (f g : Span) → span_meet f g ≢ f → span_size (span_meet f g) < span_size f
span_size_falls f g = go f.0 g.0
  where
    go : (o r : Option Ends) → span_meet (span_of o) (span_of r) ≢ span_of o → span_size (span_meet (span_of o) (span_of r)) < span_size (span_of o)
    go (Some e) (Some d) ne = cut-size e d _ refl ne
    go (Some e) None ne = let whole = count_is ((e.hi +ℤ pos 1) -ℤ e.lo) (omega (arith, ints)) in omega (arith, ints)
    go None r ne = absurd (ne refl)

-- ---- equality

ends_decides : (e d : Ends) → Decides (int_eq e.lo d.lo && int_eq e.hi d.hi) (e ≡ d)
ends_decides e d =
    let p = Decides-and (int_eq e.lo d.lo) (int_eq e.hi d.hi) (Decides-int_eq e.lo d.lo) (Decides-int_eq e.hi d.hi) in
    (λ h. let q = p.0 h in ends_ext e d q.0 q.1, λ h. p.1 (ap (λ x. x.lo) h, ap (λ x. x.hi) h))

span_decides : (f g : Span) → Decides (span_equal f g) (f ≡ g)
span_decides f g =
    let d = option_eq-decides (λ e d. int_eq e.lo d.lo && int_eq e.hi d.hi) ends_decides f.0 g.0 in
    (λ h. ap span_of (d.0 h), λ h. d.1 (ap (λ x. x.0) h))

-- ---- the laws

pub span_laws : Laws span_model
span_laws = record {
  allows_within = span_within;
  stated_allows = span-sound;
  meet_allows = span_meet-allows;
  meet_assoc = ext_assoc span_model span_meet-allows span_ext;
  meet_comm = ext_comm span_model span_meet-allows span_ext;
  meet_idem = ext_idem span_model span_meet-allows span_ext;
  narrower_tells = span_narrower;
  empty_tells = span_empty;
  equal_decides = span_decides;
  size_falls = span_size_falls;
}

-- ---- lowest and highest

-- The lowest and the highest of a span are its ends.
pub span-low : (e : Ends) → low span_model (span_of (Some e)) ≡ e.lo
unfolding low
span-low e =
    sym (lowest_is (span_allows (span_of (Some e))) (span_within (span_of (Some e))) (Some e.lo) (inside-least e.lo e.hi bottom e.lo (omega (arith, ints, clamps)) e.order))

pub span-high : (e : Ends) → high span_model (span_of (Some e)) ≡ e.hi
unfolding high
span-high e =
    sym (highest_is (span_allows (span_of (Some e))) (span_within (span_of (Some e))) (Some e.hi) (inside_greatest e.lo e.hi top e.hi (omega (arith, ints, clamps)) e.order))
