-- What the reading of a line promises.
use Rattle.grammar.proofs.ReadBack.{one_reading}
use Rattle.grammar.proofs.Sound.{reads, nests}
use Rattle.grammar.proofs.Refusals.{wrong-words, short_lines, deep-words}
use Rattle.grammar.proofs.reading_stands.Goals as goal

pub returns : goal.returns
returns c = record { reads = reads; nests = nests; one = one_reading; wrong = wrong-words; short = short_lines; deep = deep-words }
