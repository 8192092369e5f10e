-- What a Between of two numbers of U tells an align.
use Rattle.std.proofs.Common.{◌≡◌, ◌^◌, pos, Some, Less, Equal, sym, refl, ap, ◌∙◌, arith, w64, to_z, of_z}
use Rattle.std.specs.Int.{int_rem_euclid}
use Rattle.std.proofs.lemmas.Int.{ints}
use Rattle.std.proofs.lemmas.Cmp.{int_ranked}
use Rattle.statements.specs.Aligned.{rest}
use Rattle.statements.proofs.Multiples.{rest_euclid}
use Rattle.kinds.specs.Align.{align_of, anything, residue_of}
use Rattle.kinds.specs.AlignLaws.{residue_ext, spanning_many, spanning_one}
use Rattle.kinds.proofs.align.Align.spanning.Goals as goal

pub returns-in-Less : goal.returns-in-Less
returns-in-Less c =
    let h = int_ranked (to_z w64 (of_z w64 c.args.lo)) (to_z w64 (of_z w64 c.args.hi)) Less c.in-Less.ensures in
    ap (λ x. align_of (Some x)) (residue_ext _ anything refl refl) ∙ sym (spanning_many c.args.lo c.args.hi (omega (arith, ints)))

pub returns-in-Equal : goal.returns-in-Equal
returns-in-Equal c =
    let h = int_ranked (to_z w64 (of_z w64 c.args.lo)) (to_z w64 (of_z w64 c.args.hi)) Equal c.in-Equal.ensures in
    let left : c.rem_euclid.result ≡ pos (rest (2 ^ 24) c.args.lo) = c.rem_euclid.ensures.value ∙ ap (λ z. int_rem_euclid z (pos 16777216)) (omega (arith, ints)) ∙ rest_euclid 16777216 c.args.lo in
    ap (λ x. align_of (Some x)) (residue_ext _ (residue_of c.args.lo) refl (omega (arith, ints))) ∙ sym (spanning_one c.args.lo c.args.hi (omega (arith, ints)))
