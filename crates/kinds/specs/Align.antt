-- The meaning of the kind Align.
use Rattle.std.specs.Prelude.{ℕ, ◌-◌, ◌%◌, ◌^◌, Bool, false, cond, ◌&&◌, ℤ, ◌==◌, int_le, nat_le, Some, None, Option}
use Rattle.std.specs.Bool.{then_some}
use Rattle.std.specs.Option.{option_map_or, option_zip, option_eq}
use Rattle.std.proofs.Common.{arith, pow_pos}
use Rattle.statements.specs.Aligned.{aligned, rest}
use Rattle.statements.specs.Search.{lowest, highest}
use Rattle.statements.specs.Statements.{allowed}
use Rattle.statements.specs.declared.residue.Residue.{Residue}
use Rattle.statements.specs.declared.statement.Statement.{Statement}
use Rattle.statements.specs.declared.statement.Statement.TheVariants.{Between, Aligned}
use Rattle.statements.proofs.Multiples.{rest_below}
use Rattle.facts.specs.Model.{Model}
use Rattle.kinds.specs.declared.align.Align.{Align}

-- The align of this residue, or of none.
abbrev pub align_of : Option Residue → Align
align_of o = record { 0 = o }

-- An align allows the numbers of its residue.
abbrev pub align_allows : Align → ℤ → Bool
align_allows f n = option_map_or (λ a. aligned a n) f.0 false

-- The residue of every number.
abbrev pub anything : Residue
anything = record { k = 0; r = 0; fine = omega arith; below = omega arith }

-- The residue of n by 2 ^ 24.
abbrev pub residue_of : ℤ → Residue
residue_of n = record { k = 24; r = rest (2 ^ 24) n; fine = omega arith; below = rest_below (2 ^ 24) n (pow_pos 24) }

-- What the Between of lo and hi, two numbers of U, states: one number its residue by 2 ^ 24, more numbers everything, no number none.
abbrev pub spanning : ℤ → ℤ → Align
spanning lo hi = align_of (cond (int_le lo hi) (cond (int_le hi lo) (Some (residue_of lo)) (Some anything)) None)

-- An Aligned states its residue; any other statement reaches an align as the Between of its lowest and highest.
abbrev pub align_stated : Statement → Align
align_stated (Between lo hi) = spanning (lowest (allowed (Between lo hi))) (highest (allowed (Between lo hi)))
align_stated (Aligned a) = align_of (Some a)

-- The residue a, of the larger power, if its numbers leave the rest of b.
abbrev pub finer : Residue → Residue → Align
finer a b = align_of (then_some (a.r % 2 ^ b.k == b.r) a)

-- Two aligns together have the larger power and its rest, if the rests agree.
abbrev pub align_meet : Align → Align → Align
align_meet f g = option_map_or (λ (a, b). cond (nat_le b.k a.k) (finer a b) (finer b a)) (option_zip f.0 g.0) (align_of None)

-- Aligns are equal where their powers and rests are.
abbrev pub align_equal : Align → Align → Bool
align_equal f g = option_eq (λ a b. a.k == b.k && a.r == b.r) f.0 g.0

-- The size of an align falls as its power grows.
abbrev pub align_size : Align → ℕ
align_size f = option_map_or (λ a. 25 - a.k) f.0 0

-- The kind Align.
abbrev pub align_model : Model Align
align_model = record { allows = align_allows; stated = align_stated; meet = align_meet; equal = align_equal; size = align_size }
