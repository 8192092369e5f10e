-- The trees and refusals of sample lines.
use Rattle.grammar.proofs.Samples.{read_lines, refused_lines}
use Rattle.grammar.proofs.samples_stand.Goals as goal

pub returns : goal.returns
returns c = record { lines = read_lines; refusals = refused_lines }
