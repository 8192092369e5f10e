-- What Aligned allows.
use Rattle.std.specs.Prelude.{◌≡◌, ℕ, ◌-◌, ◌%◌, ◌^◌, ◌<◌, ◌≤◌, Bool, ◌&&◌, ℤ, pos, negsuc, ◌-ℤ◌, Some, None, Option, ◌==◌, unsigned_abs}
use Rattle.statements.specs.Numbers.{top, bottom, inside}
use Rattle.statements.specs.declared.residue.Residue.{Residue}

-- Is z a multiple of d?
abbrev pub multiple : ℕ → ℤ → Bool
multiple d z = unsigned_abs z % d == 0

-- Aligned k r allows each n of U for which n - r is a multiple of 2 ^ k.
abbrev pub aligned : Residue → ℤ → Bool
aligned a n = inside bottom top n && multiple (2 ^ a.k) (n -ℤ pos a.r)

-- The rest of z by d: the number below d that differs from z by a multiple of d.
abbrev pub rest : ℕ → ℤ → ℕ
rest d (pos a) = a % d
rest d (negsuc a) = d - 1 - a % d

-- o is the residue r by 2 ^ k, absent where k is above 24 or r is not below 2 ^ k.
abbrev pub Made : ℕ → ℕ → Option Residue → Type 0
Made k r (Some a) = (a.k ≡ k) × (a.r ≡ r)
Made k r None = k ≤ 24 → r < 2 ^ k → ⊥
