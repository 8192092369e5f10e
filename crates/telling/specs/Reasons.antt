-- Reasons: sets of premises and guesses.
use Rattle.std.specs.Prelude.{◌≡◌, ℕ, Bool, true, false, ◌||◌}
use Rattle.plan.specs.Placements.{Premises}

-- A premise or a guess, by its number.
pub data Tag : Type 0 where
  premise : ℕ → Tag
  guess : ℕ → Tag

-- A set of premises and guesses, by its membership test.
abbrev pub Reasons : Type 0
Reasons = Tag → Bool

-- The set without a member.
abbrev pub no_reasons : Reasons
no_reasons t = false

-- The set of all premises and all guesses.
abbrev pub every_reason : Reasons
every_reason t = true

-- What either set has.
abbrev pub together : Reasons → Reasons → Reasons
together r s t = r t || s t

-- A set of premises, as reasons.
abbrev pub premises_only : Premises → Reasons
premises_only ps (premise p) = ps p
premises_only ps (guess g) = false

-- Each member of r is a member of s.
abbrev pub Among : Reasons → Reasons → Type 0
Among r s = (t : Tag) → r t ≡ true → s t ≡ true
