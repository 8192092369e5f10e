-- The worked examples, one after the other.
use Rattle.std.proofs.Common.{◌≡◌, Bool, true, ℤ, pos, negsuc, ◌≤ℤ◌, Some, sym, refl, ◌∙◌, ap₂, arith}
use Rattle.std.proofs.lemmas.Int.{ints}
use Rattle.std.proofs.lemmas.List.Elements.{All-from_recursion}
use Rattle.statements.specs.Aligned.{rest}
use Rattle.statements.specs.Numbers.{Within}
use Rattle.statements.proofs.Aligneds.{aligned-rest}
use Rattle.statements.proofs.Searches.{lowest_is, highest_is}
use Rattle.std.proofs.lemmas.Bool.{and_from, and_parts, false_from_ne_true}
use Rattle.statements.proofs.Tests.{inside_of}
use Rattle.facts.specs.Derived.{low, high}
use Rattle.facts.specs.BothLaws.{both_laws}
use Rattle.kinds.specs.Align.{align_model}
use Rattle.kinds.specs.Span.{cut_by, span_meet, span_model}
use Rattle.kinds.specs.Full.{full_model}
use Rattle.kinds.specs.Examples.{residue, fours, Holds, examples}
use Rattle.kinds.specs.AlignLaws.{align_laws}
use Rattle.kinds.specs.SpanLaws.{span_laws, span_exact, span_stated-between}
use Rattle.kinds.proofs.examples.examples_hold.Goals as goal

abbrev allows : ℤ → Bool
allows = full_model.allows fours

within : Within allows
within = (both_laws span_model align_model span_laws align_laws).allows_within fours

eight_allowed : allows (pos 8) ≡ true
eight_allowed = and_from _ _ (span_exact (pos 5) (pos 9) (pos 8)) refl

eight : (n : ℤ) → pos 5 ≤ℤ n → n ≤ℤ pos 9 → rest 4 n ≡ 0 → n ≡ pos 8
eight (pos n) p q e = omega (arith, ints)
eight (negsuc n) p q e = absurd p.le

-- Only 8 is a multiple of 4 from 5 to 9.
only_eight : (n : ℤ) → allows n ≡ true → n ≡ pos 8
only_eight n e =
    let i = inside_of (pos 5) (pos 9) n (sym (span_exact (pos 5) (pos 9) n) ∙ (and_parts (span_model.allows fours.first n) (align_model.allows fours.second n) e).0) in
    eight n i.0 i.1 (aligned-rest (residue 2 0 tt tt) n (and_parts (span_model.allows fours.first n) (align_model.allows fours.second n) e).1)

fours_low : low full_model fours ≡ pos 8
unfolding low
fours_low =
    sym (lowest_is allows within (Some (pos 8)) (omega (arith, ints), eight_allowed, λ m h k. false_from_ne_true (allows m) (λ e. let o = only_eight m e in omega (arith, ints))))

fours-high : high full_model fours ≡ pos 8
unfolding high
fours-high =
    sym (highest_is allows within (Some (pos 8)) (omega (arith, ints), eight_allowed, λ m h k. false_from_ne_true (allows m) (λ e. let o = only_eight m e in omega (arith, ints))))

pub returns : goal.returns
unfolding cut_by
returns c = All-from_recursion Holds examples (
  ap₂ span_meet (span_stated-between (pos 0) (pos 10)) (span_stated-between (pos 5) (pos 20)) ∙ sym (span_stated-between (pos 5) (pos 10)),
  (
    ap₂ span_meet (span_stated-between (pos 0) (pos 4)) (span_stated-between (pos 5) (pos 9)),
    (refl, (refl, ((fours_low, fours-high), tt))),
  ),
)
