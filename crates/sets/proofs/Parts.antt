-- Sixteen sets of numbers below 32 as one: what the marks tell, and the least member.
use Rattle.std.proofs.Common.{◌≡◌, ℕ, ◌+◌, ◌*◌, ◌/◌, ◌%◌, ◌<◌, Bool, true, false, not, ◌&&◌, ◌↔◌, eqb, ltb, List, length, Some, MatchBool, replicate, set, sym, refl, ap, ◌∙◌, subst, ⊎_elim, arith, get_or-set_other, get_or-set_same}
use Rattle.std.proofs.lemmas.Bool.{both_ways, cases_eq, cases_lt, eq-eqb, ne_eqb, and_from, and_left, and_right, or_left, not_from_true, lt-ltb}
use Rattle.std.proofs.lemmas.List.{get_or_past, get_or-replicate}
use Rattle.sets.specs.declared.small.Set32.{Set32}
use Rattle.sets.specs.Members.{Nobody, Joined, Parted, Least}
use Rattle.sets.specs.Small.{holds}
use Rattle.sets.specs.Parts.{part_at, in_parts, Marks, Fit}
use Rattle.sets.proofs.Joining.{or_off}
use Rattle.sets.proofs.Digits.{bits_zero, bits_above}
use Rattle.sets.proofs.Words.{none_or_some}

module _ (used : Set32) (parts : List Set32) (long : length parts ≡ 16) (marks : Marks used parts) (fits : Fit parts) where
  -- A part with a member is one of the sixteen.
  part_there : (i p : ℕ) → holds (part_at parts i) p ≡ true → i < 16
  part_there i p h =
      ⊎_elim (λ l. l) (λ g. absurd (both_ways _ (ap (λ s. holds s p) (get_or_past parts i _ (omega arith)) ∙ bits_zero p) h)) (cases_lt i 16)

  -- The place of a member is one of the 32.
  place_there : (i p : ℕ) → holds (part_at parts i) p ≡ true → p < 32
  place_there i p h = ⊎_elim (λ l. l) (λ g. absurd (both_ways _ (bits_above 32 _ p (fits i) g) h)) (cases_lt p 32)

  -- A member of a part is a member of the whole.
  pub held : (i p : ℕ) → holds (part_at parts i) p ≡ true → in_parts parts (32 * i + p) ≡ true
  held i p h =
      let l = part_there i p h in
      let m = place_there i p h in
      let part : (32 * i + p) / 32 ≡ i = omega arith in
      let place : (32 * i + p) % 32 ≡ p = omega arith in
      and_from _ _ (lt-ltb (32 * i + p) 512 (omega arith)) (rw (part, place) h)

  -- A marked part has a member.
  some_held : (i : ℕ) → holds used i ≡ true → (p : ℕ) × holds (part_at parts i) p ≡ true
  some_held i on = known _ (none_or_some 32 (part_at parts i).bits (fits i) _ refl)
    where
      known : (b : Bool) → MatchBool b (Nobody (holds (part_at parts i))) ((p : ℕ) × holds (part_at parts i) p ≡ true) → (p : ℕ) × holds (part_at parts i) p ≡ true
      known true none = absurd (both_ways _ ((marks i).1 none) on)
      known false some = some

  -- So it is one of the sixteen.
  pub marked_there : (i : ℕ) → holds used i ≡ true → i < 16
  marked_there i on = let some = some_held i on in part_there i some.0 some.1

  -- The marks tell a set without a member from a set with one.
  pub marks_tell : (b : Bool) → MatchBool b (Nobody (holds used)) ((i : ℕ) × holds used i ≡ true) → MatchBool b (Nobody (in_parts parts)) ((k : ℕ) × in_parts parts k ≡ true)
  marks_tell true none = λ k. and_right _ _ ((marks (k / 32)).0 (none (k / 32)) (k % 32))
  marks_tell false some = let there = some_held some.0 some.1 in (32 * some.0 + there.0, held some.0 there.0 there.1)

  -- The least member of the first marked part is the least of all.
  pub first-least : (i p : ℕ) → Least (holds used) (Some i) → Least (holds (part_at parts i)) (Some p) → Least (in_parts parts) (Some (32 * i + p))
  first-least i p mark place = (held i p place.0, below)
    where
      below : (j : ℕ) → j < 32 * i + p → in_parts parts j ≡ false
      below j l =
          let m = place_there i p place.0 in
          and_right _ _
          (⊎_elim
          (λ e. rw e (place.1 (j % 32) (omega arith)))
          (λ ne. (marks (j / 32)).0 (mark.1 (j / 32) (omega arith)) (j % 32))
          (cases_eq (j / 32) i))

-- Where each part is s, every part is s, and past the last one stands the empty set.
pub each_part : (P : Set32 → Type 0) (s : Set32) → P s → P (record { bits = 0 }) → (i : ℕ) → P (part_at (replicate 16 s) i)
each_part P s here past i =
    ⊎_elim
    (λ l. subst P (sym (get_or-replicate 16 i s _ l)) here)
    (λ g. subst P (sym (get_or_past (replicate 16 s) i _ g)) past)
    (cases_lt i 16)

-- One part is written: what holds of it and of the others holds of each.
pub each_write : (P : ℕ → Set32 → Type 0) (parts : List Set32) (i : ℕ) (part : Set32) → i < length parts → P i part → ((j : ℕ) → (j ≡ i → ⊥) → P j (part_at parts j)) → (j : ℕ) → P j (part_at (set parts i part) j)
each_write P parts i part l here others j =
    ⊎_elim
    (λ e. subst (λ k. P k (part_at (set parts i part) k)) (sym e) (subst (P i) (sym (get_or-set_same parts i part _ l)) here))
    (λ ne. subst (P j) (sym (get_or-set_other parts i j part _ ne)) (others j ne))
    (cases_eq j i)

module _ (used marked : Set32) (parts : List Set32) (i : ℕ) (part : Set32) (l : i < length parts) (marks : Marks used parts) where
  mark_write : ((holds marked i ≡ false) ↔ Nobody (holds part)) → ((j : ℕ) → (j ≡ i → ⊥) → holds marked j ≡ holds used j) → Marks marked (set parts i part)
  mark_write here same =
      each_write (λ j s. (holds marked j ≡ false) ↔ Nobody (holds s)) parts i part l here (λ j ne. subst (λ b. (b ≡ false) ↔ Nobody (holds (part_at parts j))) (sym (same j ne)) (marks j))

  -- A part that has no member any more loses its mark.
  pub marks-off : Nobody (holds part) → Parted (holds used) i (holds marked) → Marks marked (set parts i part)
  marks-off none parted =
      mark_write ((λ _. none), λ _. parted i ∙ and_left _ _ (not_from_true _ (eq-eqb i i refl))) (λ j ne. parted j ∙ ap (λ b. not b && holds used j) (ne_eqb j i ne))

  -- A part with a member gets one.
  pub marks_on : (p : ℕ) × holds part p ≡ true → i < 32 → Joined 32 (holds used) i (holds marked) → Marks marked (set parts i part)
  marks_on some small joined =
      mark_write ((λ off. absurd (both_ways _ off on)), λ none. absurd (both_ways _ (none some.0) some.1)) (λ j ne. joined j ∙ or_off _ _ (and_left (eqb j i) (ltb i 32) (ne_eqb j i ne)))
    where
      on : holds marked i ≡ true
      on = joined i ∙ or_left _ _ (and_from (eqb i i) (ltb i 32) (eq-eqb i i refl) (lt-ltb i 32 small))
