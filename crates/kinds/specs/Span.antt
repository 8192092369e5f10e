-- The meaning of the kind Span.
use Rattle.std.specs.Prelude.{◌≡◌, ℕ, Bool, true, false, ◌&&◌, ℤ, pos, ◌+ℤ◌, ◌-ℤ◌, int_le, Some, None, Option, refl}
use Rattle.std.specs.Int.{int_max, int_min}
use Rattle.std.specs.Option.{option_map_or, option_zip, option_eq}
use Rattle.std.specs.Ordering.{int_eq}
use Rattle.statements.specs.Numbers.{inside, raised, lowered}
use Rattle.statements.specs.Search.{count, lowest, highest}
use Rattle.statements.specs.Statements.{allowed}
use Rattle.statements.specs.declared.statement.Statement.{Statement}
use Rattle.statements.proofs.Tests.{le_of, raised-low, lowered-high}
use Rattle.facts.specs.Model.{Model}
use Rattle.kinds.specs.declared.span.Span.{Span}
use Rattle.kinds.specs.declared.ends.Ends.{Ends}

-- The span of these ends, or of none.
abbrev pub span_of : Option Ends → Span
span_of o = record { 0 = o }

-- A span allows the numbers from one end to the other.
abbrev pub span_allows : Span → ℤ → Bool
span_allows f n = option_map_or (λ e. inside e.lo e.hi n) f.0 false

-- The span of two ends, by the answer to whether they are in order.
unfoldable pub cut_by : (lo hi : ℤ) (b : Bool) → int_le (raised lo) (lowered hi) ≡ b → Span
cut_by lo hi true e = span_of (Some (record { lo = raised lo; hi = lowered hi; low = raised-low lo; order = le_of (raised lo) (lowered hi) e; high = lowered-high hi }))
cut_by lo hi false e = span_of None

-- The span of the numbers of U from lo to hi.
abbrev pub cut : ℤ → ℤ → Span
cut lo hi = cut_by lo hi (int_le (raised lo) (lowered hi)) refl

-- Every statement reaches a span as the Between of its lowest and highest.
abbrev pub span_stated : Statement → Span
span_stated s = cut (lowest (allowed s)) (highest (allowed s))

-- Two spans together reach from the higher lower end to the lower upper end.
abbrev pub span_meet : Span → Span → Span
span_meet f g = option_map_or (λ (e, d). cut (int_max e.lo d.lo) (int_min e.hi d.hi)) (option_zip f.0 g.0) (span_of None)

-- Spans are equal where their ends are.
abbrev pub span_equal : Span → Span → Bool
span_equal f g = option_eq (λ e d. int_eq e.lo d.lo && int_eq e.hi d.hi) f.0 g.0

-- The size of a span is the count of the numbers that it allows.
abbrev pub span_size : Span → ℕ
span_size f = option_map_or (λ e. count ((e.hi +ℤ pos 1) -ℤ e.lo)) f.0 0

-- The kind Span.
abbrev pub span_model : Model Span
span_model = record { allows = span_allows; stated = span_stated; meet = span_meet; equal = span_equal; size = span_size }
