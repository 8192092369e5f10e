-- Below 32 a bit is tested; from 32 on the word has none.
use Rattle.std.proofs.Common.{sym, ◌∙◌, rules}
use Rattle.std.proofs.lemmas.Bool.{le-ltb}
use Rattle.sets.proofs.Digits.{bits_above}
use Rattle.sets.proofs.Words.{test_bits}
use Rattle.sets.proofs.small.Set32.has.Goals as goal

pub returns-then-n-lt32 : goal.returns-then-n-lt32
returns-then-n-lt32 c = test_bits c.args.self.bits c.args.n

pub returns-else-n-lt32 : goal.returns-else-n-lt32
returns-else-n-lt32 c = le-ltb c.args.n 32 c.if-n-lt32.false ∙ sym (bits_above 32 c.args.self.bits c.args.n (search rules) c.if-n-lt32.false)
