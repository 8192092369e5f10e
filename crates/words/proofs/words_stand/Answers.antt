-- Which words a line has, and where they stand.
use Rattle.words.proofs.Laid.{exact_words, exact_faults}
use Rattle.words.proofs.Spelling.{words_stand, words_rise}
use Rattle.words.proofs.words_stand.Goals as goal

pub returns : goal.returns
returns c = record { words = exact_words; faults = exact_faults; standing = words_stand; rising = words_rise }
