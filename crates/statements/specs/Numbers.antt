-- U, the whole numbers from -M to M, where M is 4,294,967,295.
use Rattle.std.specs.Prelude.{◌≡◌, Bool, true, ◌&&◌, ℤ, pos, negsuc, ◌≤ℤ◌, int_le}
use Rattle.std.specs.Int.{int_max, int_min}

-- M, the highest number of U.
abbrev pub top : ℤ
top = pos 4294967295

-- -M, the lowest number of U.
abbrev pub bottom : ℤ
bottom = negsuc 4294967294

-- n is a number of U.
abbrev pub InU : ℤ → Type 0
InU n = (bottom ≤ℤ n) × (n ≤ℤ top)

-- Is n one of lo to hi?
abbrev pub inside : ℤ → ℤ → ℤ → Bool
inside lo hi n = int_le lo n && int_le n hi

-- lo raised to at least -M.
abbrev pub raised : ℤ → ℤ
raised lo = int_max lo bottom

-- hi lowered to at most M.
abbrev pub lowered : ℤ → ℤ
lowered hi = int_min hi top

-- The test allows numbers of U only.
abbrev pub Within : (ℤ → Bool) → Type 0
Within a = (n : ℤ) → a n ≡ true → InU n
