-- Neither the parts nor the marks of the empty set have a member.
use Rattle.std.proofs.Common.{◌<◌, ◌^◌, rules}
use Rattle.sets.specs.Members.{Nobody}
use Rattle.sets.specs.Small.{holds}
use Rattle.sets.proofs.Digits.{bits_zero}
use Rattle.sets.proofs.Parts.{each_part}
use Rattle.sets.proofs.wide.Set512.none.Goals as goal

pub invariant_of-result : goal.invariant_of-result
invariant_of-result c =
    let none = each_part (λ s. Nobody (holds s)) c.none.result c.none.ensures bits_zero in
    record { marks = λ i. ((λ _. none i), (λ _. c.none-2.ensures i)); fits = each_part (λ s. s.bits < 2 ^ 32) c.none.result (search rules) (search rules) }
