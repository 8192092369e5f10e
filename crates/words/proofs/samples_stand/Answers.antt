-- The words and faults of sample lines.
use Rattle.words.proofs.Samples.{read_lines, faulty_lines}
use Rattle.words.proofs.samples_stand.Goals as goal

pub returns : goal.returns
returns c = record { lines = read_lines; faults = faulty_lines }
