-- The least number from one upward and the greatest from one downward that a test allows; its lowest and its highest.
use Rattle.std.specs.Prelude.{◌≡◌, ℕ, zero, suc, Bool, true, false, cond, ℤ, pos, negsuc, ◌+ℤ◌, ◌-ℤ◌, ◌≤ℤ◌, ◌<ℤ◌, Some, None, Option}
use Rattle.std.specs.Option.{is_none, unwrap_or}
use Rattle.statements.specs.Numbers.{top, bottom, raised, lowered}

-- r is the least number from n up that `a` allows, absent where there is none.
abbrev pub LeastFrom : (ℤ → Bool) → ℤ → Option ℤ → Type 0
LeastFrom a n (Some v) = (n ≤ℤ v) × (a v ≡ true) × ((m : ℤ) → n ≤ℤ m → m <ℤ v → a m ≡ false)
LeastFrom a n None = (m : ℤ) → n ≤ℤ m → a m ≡ false

-- r is the greatest number from n down that `a` allows, absent where there is none.
abbrev pub GreatestTo : (ℤ → Bool) → ℤ → Option ℤ → Type 0
GreatestTo a n (Some v) = (v ≤ℤ n) × (a v ≡ true) × ((m : ℤ) → m ≤ℤ n → v <ℤ m → a m ≡ false)
GreatestTo a n None = (m : ℤ) → m ≤ℤ n → a m ≡ false

-- The first of k numbers from n up that `a` allows.
unfoldable pub seek_up : (ℤ → Bool) → ℕ → ℤ → Option ℤ
seek_up a zero n = None
seek_up a (suc k) n = cond (a n) (Some n) (seek_up a k (n +ℤ pos 1))

-- The first of k numbers from n down that `a` allows.
unfoldable pub seek_down : (ℤ → Bool) → ℕ → ℤ → Option ℤ
seek_down a zero n = None
seek_down a (suc k) n = cond (a n) (Some n) (seek_down a k (n -ℤ pos 1))

-- z, or 0 where z is negative.
abbrev pub count : ℤ → ℕ
count (pos n) = n
count (negsuc n) = 0

-- The least number of U from n up that `a` allows.
unfoldable pub least_from : (ℤ → Bool) → ℤ → Option ℤ
least_from a n = seek_up a (count ((top +ℤ pos 1) -ℤ raised n)) (raised n)

-- The greatest number of U from n down that `a` allows.
unfoldable pub greatest_to : (ℤ → Bool) → ℤ → Option ℤ
greatest_to a n = seek_down a (count (lowered n -ℤ (bottom -ℤ pos 1))) (lowered n)

-- The lowest number of U that `a` allows, M where it allows none.
unfoldable pub lowest : (ℤ → Bool) → ℤ
lowest a = unwrap_or (least_from a bottom) top

-- The highest number of U that `a` allows, -M where it allows none.
unfoldable pub highest : (ℤ → Bool) → ℤ
highest a = unwrap_or (greatest_to a top) bottom

-- Does `a` allow no number of U?
unfoldable pub allows_none : (ℤ → Bool) → Bool
allows_none a = is_none (least_from a bottom)
