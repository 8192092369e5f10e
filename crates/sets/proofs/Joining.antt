-- What it is for one number to join a set, or to leave it.
use Rattle.std.proofs.Common.{◌≡◌, ℕ, ◌<◌, Bool, false, not, ◌&&◌, ◌||◌, eqb, ltb, sym, ap, ◌∙◌, ⊎_elim}
use mathlib.Core.Bool.{and-true}
use Rattle.std.proofs.lemmas.Bool.{cases_eq, ne_eqb, and_right, lt-ltb}
use Rattle.sets.specs.Members.{Members, Joined, Parted}

-- A test that fails adds nothing to another.
pub or_off : (a b : Bool) → a ≡ false → (a || b) ≡ b
or_off a b e = rw e

-- Below the limit the limit says nothing.
pub below_limit : (limit n j : ℕ) → n < limit → (eqb j n && ltb n limit) ≡ eqb j n
below_limit limit n j l = ap (λ b. eqb j n && b) (lt-ltb n limit l) ∙ and-true (eqb j n)

-- A number below the limit joins.
pub joined_below : (limit n : ℕ) (s t : Members) → n < limit → ((j : ℕ) → t j ≡ (eqb j n || s j)) → Joined limit s n t
joined_below limit n s t l h j = h j ∙ ap (λ b. b || s j) (sym (below_limit limit n j l))

-- A number that is no member leaves the set as it is.
pub parted_absent : (n : ℕ) (s : Members) → s n ≡ false → Parted s n s
parted_absent n s off j =
    ⊎_elim
    (λ e. let here : s j ≡ false = ap s e ∙ off in here ∙ sym (and_right (not (eqb j n)) (s j) here))
    (λ ne. sym (ap (λ b. not b && s j) (ne_eqb j n ne)))
    (cases_eq j n)
