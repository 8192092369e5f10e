-- The worked examples of the kinds.
use Rattle.std.specs.Prelude.{◌≡◌, ℕ, ◌^◌, T, List, [], ◌∷◌, ℤ, pos, None, nat_le, nat_lt}
use Rattle.std.proofs.Common.{leb→le, ltb→lt}
use Rattle.statements.specs.declared.residue.Residue.{Residue}
use Rattle.statements.specs.declared.statement.Statement.TheVariants.{Between, Aligned}
use Rattle.facts.specs.Derived.{low, high}
use Rattle.facts.specs.declared.both.Both.{Both}
use Rattle.kinds.specs.Span.{span_of, span_model}
use Rattle.kinds.specs.Align.{align_of, align_model}
use Rattle.kinds.specs.Full.{full_model}
use Rattle.kinds.specs.declared.align.Align.{Align}
use Rattle.kinds.specs.declared.span.Span.{Span}

-- The span of lo to hi.
abbrev pub span : ℕ → ℕ → Span
span lo hi = span_model.stated (Between (pos lo) (pos hi))

-- The residue r by 2 ^ k, and the align that it states.
abbrev pub residue : (k r : ℕ) → T (nat_le k 24) → T (nat_lt r (2 ^ k)) → Residue
residue k r p q = record { k = k; r = r; fine = leb→le k 24 p; below = ltb→lt r (2 ^ k) q }

abbrev pub align : (k r : ℕ) → T (nat_le k 24) → T (nat_lt r (2 ^ k)) → Align
align k r p q = align_model.stated (Aligned (residue k r p q))

-- The multiples of 4 from 5 to 9.
abbrev pub fours : Both Span Align
fours = record { first = span 5 9; second = align 2 0 tt tt }

-- An example: two facts and what they merge to, or a fact of the full kind with its lowest and highest.
pub data Example : Type 0 where
  spans : Span → Span → Span → Example
  aligns : Align → Align → Align → Example
  ends : Both Span Align → ℤ → ℤ → Example

-- What an example says.
abbrev pub Holds : Example → Type 0
Holds (spans f g h) = span_model.meet f g ≡ h
Holds (aligns f g h) = align_model.meet f g ≡ h
Holds (ends f lo hi) = (low full_model f ≡ lo) × (high full_model f ≡ hi)

-- The worked examples.
abbrev pub examples : List Example
examples =
    spans (span 0 10) (span 5 20) (span 5 10)
    ∷ spans (span 0 4) (span 5 9) (span_of None)
    ∷ aligns (align 3 0 tt tt) (align 2 0 tt tt) (align 3 0 tt tt)
    ∷ aligns (align 3 4 tt tt) (align 2 2 tt tt) (align_of None)
    ∷ ends fours (pos 8) (pos 8)
    ∷ []
