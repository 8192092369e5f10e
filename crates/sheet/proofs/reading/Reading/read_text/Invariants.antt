use Rattle.std.specs.Iterator.Adapters.{enumerate_count}
use Rattle.sheet.specs.Progress.{progress}
use Rattle.sheet.proofs.Texts.{Upto}
use Rattle.sheet.proofs.reading.Reading.read_text.Given as goal

abbrev pub invariant-loop-i : goal.invariant-loop-i
invariant-loop-i l = Upto (goal.iterator-loop-i).next_gives l.number (progress l.initial.self) l.text l.i-iterator (enumerate_count l.i-iterator) l.offset (progress l.self)
