use Rattle.std.proofs.Common.{arith}
use Rattle.std.proofs.lemmas.Int.{ints}
use Rattle.telling.specs.Tables.{facts}
use Rattle.telling.specs.Telling.{lows, highs}
use Rattle.cells.specs.Meaning.{table_of}
use Rattle.cells.proofs.Readings.{said-plus, said_minus}
use Rattle.cells.proofs.reads.Reading.said.Goals as goal

pub returns-in-Plus : goal.returns-in-Plus
returns-in-Plus g c =
    let m = g.K.Kind.model in
    let φ = facts (table_of m c.args.self.now.table.now) in
    said-plus (lows m φ) (highs m φ) c.args.self.now.tell.saying c.in-Plus.x c.in-Plus.y c.in-Plus.is
    (omega (arith, ints, c.low-in-Plus.ensures.is, c.low-in-Plus-2.ensures.is)) (omega (arith, ints, c.high-in-Plus.ensures.is, c.high-in-Plus-2.ensures.is))

pub returns-in-Minus : goal.returns-in-Minus
returns-in-Minus g c =
    let m = g.K.Kind.model in
    let φ = facts (table_of m c.args.self.now.table.now) in
    said_minus (lows m φ) (highs m φ) c.args.self.now.tell.saying c.in-Minus.x c.in-Minus.y c.in-Minus.is
    (omega (arith, ints, c.low-in-Minus.ensures.is, c.high-in-Minus.ensures.is)) (omega (arith, ints, c.high-in-Minus-2.ensures.is, c.low-in-Minus-2.ensures.is))
