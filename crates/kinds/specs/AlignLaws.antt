-- Align is a lawful kind.
use Rattle.std.specs.Prelude.{◌≡◌, ℕ, suc, ◌+◌, ◌-◌, ◌*◌, ◌%◌, ◌^◌, ◌<◌, ◌≤◌, true, false, ◌&&◌, ◌≢◌, ℤ, pos, ◌≤ℤ◌, ◌<ℤ◌, ◌==◌, int_le, nat_le, Some, None, Option, refl}
use Rattle.std.proofs.Common.{Decides, sym, subst, subst₂, ap, ap₂, ◌∙◌, mod-eq_of_lt, arith, pow_mono, pow_pos}
use Rattle.std.specs.Cmp.{both_ways}
use mathlib.Core.HLevel.{is_prop→PathP}
use Rattle.std.proofs.Math.Bridge.{le_prop}
use Rattle.std.proofs.Math.Bool.{and_comm}
use Rattle.std.proofs.Math.Nat.{add-mod_right}
use Rattle.std.proofs.lemmas.Int.{ints, by_lt_z}
use Rattle.std.proofs.lemmas.Bool.{and_from, and_parts, and_right, cond-false, cond-true, cond_both, eqb-false, eqb-true, false_from_ne_true, leb-false, leb-true}
use Rattle.std.proofs.lemmas.Bool.Decides.{Decides-and, Decides-eqb}
use Rattle.kinds.specs.Absence.{option_eq-decides}
use Rattle.statements.specs.Aligned.{aligned}
use Rattle.statements.specs.Between.{between}
use Rattle.statements.specs.Numbers.{InU, Within}
use Rattle.statements.specs.Search.{lowest, highest}
use Rattle.statements.specs.Statements.{allowed}
use Rattle.statements.specs.declared.residue.Residue.{Residue}
use Rattle.statements.specs.declared.statement.Statement.{Statement}
use Rattle.statements.specs.declared.statement.Statement.TheVariants.{Between, Aligned}
use Rattle.statements.proofs.Tests.{then_some_both, test_cases, test_clash, le_made, le_no}
use Rattle.statements.proofs.Aligneds.{aligned_within, aligned-rest, rest-aligned}
use Rattle.statements.proofs.Multiples.{rest_below}
use Rattle.statements.proofs.Searches.{lowest_le, highest_ge, lowest_none, highest_none, lowest_mono, highest_mono}
use Rattle.statements.proofs.Statements.{allowed_within}
use Rattle.facts.specs.Laws.{Laws}
use Rattle.facts.proofs.Extensional.{ext_assoc, ext_comm, ext_idem, ext_tells}
use Rattle.kinds.specs.Align.{align_of, align_allows, anything, residue_of, spanning, align_stated, finer, align_meet, align_equal, align_size, align_model}
use Rattle.kinds.specs.declared.align.Align.{Align}
use Rattle.kinds.specs.Rests.{rest_coarser}

-- ---- aligns are determined by their numbers

pub residue_ext : (a b : Residue) → a.k ≡ b.k → a.r ≡ b.r → a ≡ b
residue_ext a b p q = λ i. record {
  k = p i;
  r = q i;
  fine = is_prop→PathP (λ j. p j ≤ 24) (λ j. le_prop) a.fine b.fine i;
  below = is_prop→PathP (λ j. q j < 2 ^ p j) (λ j. le_prop) a.below b.below i;
}

-- A residue allows its rest, and the number one step above it.
small_in : (n : ℕ) → n < 2 ^ 25 → InU (pos n)
small_in n h = (omega (arith, ints), omega (arith, ints))

rest-allowed : (a : Residue) → aligned a (pos a.r) ≡ true
rest-allowed a = let s = pow_mono a.fine in let b = a.below in rest-aligned a (pos a.r) (small_in a.r (omega arith)) (mod-eq_of_lt a.below)

step-allowed : (a : Residue) → aligned a (pos (a.r + 2 ^ a.k)) ≡ true
step-allowed a =
    let s = pow_mono a.fine in let b = a.below in
    rest-aligned a (pos (a.r + 2 ^ a.k)) (small_in (a.r + 2 ^ a.k) (omega arith)) (add-mod_right a.r (2 ^ a.k) ∙ mod-eq_of_lt a.below)

-- A residue whose numbers another allows has no smaller power.
power_le : (a b : Residue) → ((n : ℤ) → aligned a n ≡ true → aligned b n ≡ true) → b.k ≤ a.k
power_le a b less =
    test_cases (nat_le b.k a.k) (λ e. leb-true _ _ e)
    (λ e.
    let lt = leb-false _ _ e in
    let w : 2 ^ suc a.k ≤ 2 ^ b.k = pow_mono (omega arith) in
    let twice : 2 ^ suc a.k ≡ 2 * 2 ^ a.k = omega arith in
    let here = aligned-rest b (pos a.r) (less (pos a.r) (rest-allowed a)) in
    let next = aligned-rest b (pos (a.r + 2 ^ a.k)) (less (pos (a.r + 2 ^ a.k)) (step-allowed a)) in
    let x = a.below in let y = pow_pos a.k in
    let s : a.r % 2 ^ b.k ≡ a.r = mod-eq_of_lt (let z : a.r < 2 ^ b.k = omega arith in z) in
    let t : (a.r + 2 ^ a.k) % 2 ^ b.k ≡ a.r + 2 ^ a.k = mod-eq_of_lt (let z : a.r + 2 ^ a.k < 2 ^ b.k = omega arith in z) in
    absurd (omega arith))

pub align_ext : (f g : Align) → ((n : ℤ) → align_allows f n ≡ true → align_allows g n ≡ true) → ((n : ℤ) → align_allows g n ≡ true → align_allows f n ≡ true) → f ≡ g
align_ext f g = go f.0 g.0
  where
    go : (o r : Option Residue) → ((n : ℤ) → align_allows (align_of o) n ≡ true → align_allows (align_of r) n ≡ true) → ((n : ℤ) → align_allows (align_of r) n ≡ true → align_allows (align_of o) n ≡ true) → align_of o ≡ align_of r
    go (Some a) (Some b) p q =
        let x = power_le a b p in
        let y = power_le b a q in
        let k : a.k ≡ b.k = omega arith in
        let small : a.r < 2 ^ b.k = subst (λ z. a.r < 2 ^ z) k a.below in
        ap (λ x. align_of (Some x)) (residue_ext a b k (sym (mod-eq_of_lt small) ∙ aligned-rest b (pos a.r) (p (pos a.r) (rest-allowed a))))
    go (Some a) None p q = test_clash (p (pos a.r) (rest-allowed a)) refl
    go None (Some b) p q = test_clash (q (pos b.r) (rest-allowed b)) refl
    go None None p q = refl

align_within : (f : Align) → Within (align_allows f)
align_within f = go f.0
  where
    go : (o : Option Residue) → Within (align_allows (align_of o))
    go (Some a) n h = aligned_within a n h
    go None n h = test_clash h refl

-- ---- merge

finer-allows : (a b : Residue) (n : ℤ) → b.k ≤ a.k → align_allows (finer a b) n ≡ (aligned a n && aligned b n)
finer-allows a b n le =
    then_some_both (λ o. align_allows (align_of o) n ≡ (aligned a n && aligned b n)) (a.r % 2 ^ b.k == b.r) a
    (λ e. both_ways (aligned a n) (aligned a n && aligned b n)
    (λ h. and_from _ _ h (rest-aligned b n (aligned_within a n h) (rest_coarser b.k a.k n le ∙ ap (λ x. x % 2 ^ b.k) (aligned-rest a n h) ∙ eqb-true _ _ e)))
    (λ h. (and_parts (aligned a n) (aligned b n) h).0))
    (λ e. sym (false_from_ne_true (aligned a n && aligned b n) (λ h.
    let p = and_parts (aligned a n) (aligned b n) h in
    eqb-false _ _ e (ap (λ x. x % 2 ^ b.k) (sym (aligned-rest a n p.0)) ∙ sym (rest_coarser b.k a.k n le) ∙ aligned-rest b n p.1))))

align_meet-allows : (f g : Align) (n : ℤ) → align_allows (align_meet f g) n ≡ (align_allows f n && align_allows g n)
align_meet-allows f g = go f.0 g.0
  where
    go : (o r : Option Residue) (n : ℤ) → align_allows (align_meet (align_of o) (align_of r)) n ≡ (align_allows (align_of o) n && align_allows (align_of r) n)
    go (Some a) (Some b) n =
        cond_both (nat_le b.k a.k) (finer a b) (finer b a) (λ x. align_allows x n ≡ (aligned a n && aligned b n))
        (λ e. finer-allows a b n (leb-true _ _ e))
        (λ e. let h = leb-false _ _ e in finer-allows b a n (omega arith) ∙ and_comm (aligned b n) (aligned a n))
    go (Some a) None n = sym (and_right (aligned a n) false refl)
    go None r n = refl

-- ---- what is stated

-- The Between of two numbers of U, by their order.
module _ (lo hi : ℤ) where
  pub spanning_none : hi <ℤ lo → spanning lo hi ≡ align_of None
  spanning_none h = ap align_of (cond-false (int_le lo hi) _ _ (le_no lo hi h))

  pub spanning_one : lo ≡ hi → spanning lo hi ≡ align_of (Some (residue_of lo))
  spanning_one h = ap align_of (cond-true (int_le lo hi) _ _ (le_made lo hi (omega (arith, ints))) ∙ cond-true (int_le hi lo) _ _ (le_made hi lo (omega (arith, ints))))

  pub spanning_many : lo <ℤ hi → spanning lo hi ≡ align_of (Some anything)
  spanning_many h = ap align_of (cond-true (int_le lo hi) _ _ (le_made lo hi (omega (arith, ints))) ∙ cond-false (int_le hi lo) _ _ (le_no hi lo h))

anything-allows : (n : ℤ) → InU n → align_allows (align_of (Some anything)) n ≡ true
anything-allows n u = rest-aligned anything n u (let h = rest_below (2 ^ 0) n (pow_pos 0) in omega arith)

residue-allows : (n : ℤ) → InU n → align_allows (align_of (Some (residue_of n))) n ≡ true
residue-allows n u = rest-aligned (residue_of n) n u refl

spanning-allows : (lo hi n : ℤ) → InU n → lo ≤ℤ n → n ≤ℤ hi → align_allows (spanning lo hi) n ≡ true
spanning-allows lo hi n u p q =
    by_lt_z lo hi
    (λ h. subst (λ x. align_allows x n ≡ true) (sym (spanning_many lo hi h)) (anything-allows n u))
    (λ h.
    let same : lo ≡ hi = omega (arith, ints) in
    let at : n ≡ lo = omega (arith, ints) in
    subst (λ x. align_allows x n ≡ true) (sym (spanning_one lo hi same)) (subst (λ x. align_allows (align_of (Some (residue_of x))) n ≡ true) at (residue-allows n u)))

-- A narrower pair of ends allows no more.
spanning_mono : (lo hi lo' hi' n : ℤ) → lo' ≤ℤ lo → hi ≤ℤ hi' → align_allows (spanning lo hi) n ≡ true → align_allows (spanning lo' hi') n ≡ true
spanning_mono lo hi lo' hi' n p q e =
    let u = align_within (spanning lo hi) n e in
    by_lt_z hi lo
    (λ h. test_clash e (ap (λ x. align_allows x n) (spanning_none lo hi h)))
    (λ h. by_lt_z lo' hi'
    (λ k. ap (λ x. align_allows x n) (spanning_many lo' hi' k) ∙ anything-allows n u)
    (λ k.
    let same-lo : lo ≡ lo' = omega (arith, ints) in
    let same-hi : hi ≡ hi' = omega (arith, ints) in
    subst₂ (λ x y. align_allows (spanning x y) n ≡ true) same-lo same-hi e))

align-sound : (s : Statement) (n : ℤ) → allowed s n ≡ true → align_allows (align_stated s) n ≡ true
align-sound (Between lo hi) n h =
    let a = allowed (Between lo hi) in
    let w = allowed_within (Between lo hi) in
    spanning-allows (lowest a) (highest a) n (w n h) (lowest_le a w n h) (highest_ge a w n h)
align-sound (Aligned a) n h = h

align_narrower : (lo hi lo' hi' : ℤ) → ((n : ℤ) → between lo hi n ≡ true → between lo' hi' n ≡ true) → align_meet (align_stated (Between lo hi)) (align_stated (Between lo' hi')) ≡ align_stated (Between lo hi)
align_narrower lo hi lo' hi' h =
    let a = allowed (Between lo hi) in
    let b = allowed (Between lo' hi') in
    let w = allowed_within (Between lo hi) in
    let v = allowed_within (Between lo' hi') in
    ext_tells align_model align_meet-allows align_ext (align_stated (Between lo hi)) (align_stated (Between lo' hi'))
    (λ n e. spanning_mono (lowest a) (highest a) (lowest b) (highest b) n (lowest_mono a b w v h) (highest_mono a b w v h) e)

align_empty : (lo hi : ℤ) → ((n : ℤ) → between lo hi n ≡ false) → (f : Align) → align_meet (align_stated (Between lo hi)) f ≡ align_stated (Between lo hi)
align_empty lo hi h f =
    let a = allowed (Between lo hi) in
    let w = allowed_within (Between lo hi) in
    let p = lowest_none a w h in
    let q = highest_none a w h in
    subst (λ x. align_meet x f ≡ x) (sym (spanning_none (lowest a) (highest a) (omega (arith, ints)))) refl

-- A Between states what its lowest and highest give.
pub stated_by_ends : (s : Statement) (lo hi x y : ℤ) → s ≡ Between lo hi → x ≡ lowest (allowed s) → y ≡ highest (allowed s) → spanning x y ≡ align_stated s
stated_by_ends s lo hi x y e p q = ap₂ spanning p q ∙ subst (λ t. spanning (lowest (allowed t)) (highest (allowed t)) ≡ align_stated t) (sym e) refl

-- ---- equality and size

residue_decides : (a b : Residue) → Decides (a.k == b.k && a.r == b.r) (a ≡ b)
residue_decides a b =
    let p = Decides-and (a.k == b.k) (a.r == b.r) (Decides-eqb a.k b.k) (Decides-eqb a.r b.r) in
    (λ h. let q = p.0 h in residue_ext a b q.0 q.1, λ h. p.1 (ap (λ x. x.k) h, ap (λ x. x.r) h))

align_decides : (f g : Align) → Decides (align_equal f g) (f ≡ g)
align_decides f g =
    let d = option_eq-decides (λ a b. a.k == b.k && a.r == b.r) residue_decides f.0 g.0 in
    (λ h. ap align_of (d.0 h), λ h. d.1 (ap (λ x. x.0) h))

align_size_falls : (f g : Align) → align_meet f g ≢ f → align_size (align_meet f g) < align_size f
align_size_falls f g = go f.0 g.0
  where
    go : (o r : Option Residue) → align_meet (align_of o) (align_of r) ≢ align_of o → align_size (align_meet (align_of o) (align_of r)) < align_size (align_of o)
    go (Some a) (Some b) ne =
        let P : Align → Type 0 = λ x. x ≢ align_of (Some a) → align_size x < 25 - a.k in
        let Q : Option Residue → Type 0 = λ o. P (align_of o) in
        cond_both (nat_le b.k a.k) (finer a b) (finer b a) P
        (λ e. then_some_both Q (a.r % 2 ^ b.k == b.r) a (λ t k. absurd (k refl)) (λ t k. omega arith))
        (λ e. let lt = leb-false _ _ e in then_some_both Q (b.r % 2 ^ a.k == a.r) b (λ t k. omega arith) (λ t k. omega arith))
        ne
    go (Some a) None ne = omega arith
    go None r ne = absurd (ne refl)

-- ---- the laws

pub align_laws : Laws align_model
align_laws = record {
  allows_within = align_within;
  stated_allows = align-sound;
  meet_allows = align_meet-allows;
  meet_assoc = ext_assoc align_model align_meet-allows align_ext;
  meet_comm = ext_comm align_model align_meet-allows align_ext;
  meet_idem = ext_idem align_model align_meet-allows align_ext;
  narrower_tells = align_narrower;
  empty_tells = align_empty;
  equal_decides = align_decides;
  size_falls = align_size_falls;
}
