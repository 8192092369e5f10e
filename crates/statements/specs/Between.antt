-- What Between allows.
use Rattle.std.specs.Prelude.{Bool, ℤ}
use Rattle.statements.specs.Numbers.{inside, raised, lowered}

-- Between lo hi allows lo to hi, lo first raised to at least -M and hi lowered to at most M.
abbrev pub between : ℤ → ℤ → ℤ → Bool
between lo hi = inside (raised lo) (lowered hi)
