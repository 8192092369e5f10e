-- What each turn over the digits keeps: the number so far, and what the rest makes of it.
use Rattle.std.proofs.Common.{◌≡◌, ◌≤◌, drop}
use Rattle.words.specs.Words.{decimal_after, decimal}
use Rattle.words.proofs.number.Given as goal

abbrev pub invariant-loop-digit : goal.invariant-loop-digit
invariant-loop-digit l = (l.value ≤ 4294967295) × (decimal_after l.value (drop l.digit-index l.digits) ≡ decimal l.digits)
