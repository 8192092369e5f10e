-- What a ring keeps true as a number comes or is taken: its set and its order agree.
use Rattle.std.proofs.Common.{◌≡◌, ℕ, suc, ◌+◌, ◌<◌, ◌≤◌, true, false, not, ◌&&◌, ◌||◌, eqb, ltb, ◌⊎◌, List, [], ◌∷◌, ◌++◌, sym, refl, ap, ◌∙◌, subst, ⊎_elim, arith}
use Rattle.std.proofs.lemmas.Bool.{both_ways, cases_eq, eq-eqb, ne_eqb, eqb-true, and_from, and_left, and_right, and_parts, or_left, or_cases, not_from_true, not_from_false, lt-ltb, le-ltb, ltb-true, cond-true, cond-false}
use Rattle.sets.specs.Members.{Members, Nobody, Joined, Parted, among, count}
use Rattle.sets.proofs.Joining.{below_limit}
use Rattle.sets.proofs.Counts.{count_le, count_joined, count_parted, count_room, count_none}
use Rattle.sets.proofs.Lists.{among_push}
use Rattle.agenda.specs.declared.ring.Ring.{Ring}
use Rattle.agenda.specs.Orders.{distinct, pushed}
use Rattle.agenda.specs.Rings.{waits_in, from_oldest}
use Rattle.agenda.proofs.Distinct.{distinct_push, Parts}

-- The list xs has the members of s, each once; they are len numbers below 512.
pub record Kept (s : Members) (xs : List ℕ) (len : ℕ) : Type 0 where
  pub below : (j : ℕ) → s j ≡ true → j < 512
  pub agrees : (j : ℕ) → s j ≡ among j xs
  pub once : distinct xs ≡ true
  pub counted : len ≡ count s 512

-- A ring keeps this.
pub kept : (ring : Ring) → Kept (waits_in ring) (from_oldest ring) ring.len
kept ring = record { below = λ j h. ltb-true j 512 (and_parts _ _ h).0; agrees = ring.agrees; once = ring.once; counted = ring.counted }

-- It is kept by an equal list.
pub kept_as : (s : Members) (xs ys : List ℕ) (len : ℕ) → xs ≡ ys → Kept s xs len → Kept s ys len
kept_as s xs ys len e h = subst (λ zs. Kept s zs len) e h

-- It holds where nothing waits.
pub kept_none : (s : Members) (xs : List ℕ) (len : ℕ) → Nobody s → xs ≡ [] → len ≡ 0 → Kept s xs len
unfolding among distinct
kept_none s xs len h e z =
    record {
      below = λ j q. absurd (both_ways (s j) (h j) q);
      agrees = λ j. h j ∙ sym (ap (among j) e);
      once = ap distinct e;
      counted = z ∙ sym (count_none s 512 h);
    }

module _ {s : Members} {xs : List ℕ} {len : ℕ} (known : Kept s xs len) where
  -- There is a place for each number.
  pub within : len ≤ 512
  within = omega (arith, count_le s 512, known.counted)

  -- With an empty list nothing waits.
  pub none_waits : xs ≡ [] → Nobody s
  unfolding among
  none_waits e j = known.agrees j ∙ ap (among j) e

  -- The number k is new, and t is s with it.
  module _ (k : ℕ) (small : k < 512) (new : s k ≡ false) (t : Members) (joined : Joined 512 s k t) where
    joins : (j : ℕ) → t j ≡ (eqb j k || s j)
    joins j = joined j ∙ ap (λ b. b || s j) (below_limit 512 k j small)

    -- A place is free for it.
    pub put_room : len < 512
    put_room = omega (arith, count_room s k 512 small new, known.counted)

    -- At the end of the list it keeps what was kept.
    pub put-kept : Kept t (xs ++ (k ∷ [])) (len + 1)
    put-kept =
        record {
          below = λ j h. ⊎_elim (λ e. omega (arith, eqb-true j k e)) (λ q. known.below j q) (or_cases (eqb j k) (s j) (sym (joins j) ∙ h));
          agrees = λ j. joins j ∙ ap (λ b. eqb j k || b) (known.agrees j) ∙ sym (among_push j k xs);
          once = distinct_push k xs known.once (sym (known.agrees k) ∙ new);
          counted = omega (arith, count_joined s t k 512 small new joins, known.counted);
        }

    -- That is where it belongs.
    pub put_order : xs ++ (k ∷ []) ≡ pushed k xs
    unfolding pushed
    put_order = sym (cond-true _ _ _ (and_from _ _ (lt-ltb k 512 small) (not_from_false _ (sym (known.agrees k) ∙ new))))

  -- A number that waits already, or is too large, leaves the order as it is.
  pub same_order : (k : ℕ) → (512 ≤ k) ⊎ (s k ≡ true) → xs ≡ pushed k xs
  unfolding pushed
  same_order k why =
      sym (cond-false _ _ _
      (⊎_elim
      (λ large. and_left (ltb k 512) (not (among k xs)) (le-ltb k 512 large))
      (λ waits. and_right (ltb k 512) (not (among k xs)) (not_from_true _ (sym (known.agrees k) ∙ waits)))
      why))

  -- The number k is an element, and ys has the others.
  module _ (k : ℕ) (ys : List ℕ) (parts : Parts xs k ys) where
    -- It waits.
    pub take-waits : s k ≡ true
    take-waits = known.agrees k ∙ parts.each k ∙ or_left (eqb k k) (among k ys) (eq-eqb k k refl)

    -- The others keep what was kept.
    pub take-kept : (t : Members) → Parted s k t → (rest : ℕ) → len ≡ suc rest → Kept t ys rest
    take-kept t parted rest more =
        record {
          below = λ j h. known.below j (and_parts (not (eqb j k)) (s j) (sym (parted j) ∙ h)).1;
          agrees = λ j.
              parted j ∙ ap (λ b. not (eqb j k) && b) (known.agrees j ∙ parts.each j)
              ∙ ⊎_elim
              (λ e. rw (eq-eqb j k e) (sym (ap (λ x. among x ys) e ∙ parts.once)))
              (λ ne. rw (ne_eqb j k ne))
              (cases_eq j k);
          once = parts.rest;
          counted = omega (arith, count_parted s t k 512 (known.below k take-waits) take-waits parted, known.counted);
        }
