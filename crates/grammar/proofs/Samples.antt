-- The readings of sample lines, which antt computes.
use Rattle.std.proofs.Common.{refl}
use Rattle.words.specs.Class.{class_of}
use Rattle.grammar.specs.Examples.{ReadLines, RefusedLines}

pub read_lines : ReadLines
unfolding class_of
read_lines = (refl, refl, refl, refl, refl, refl)

pub refused_lines : RefusedLines
unfolding class_of
refused_lines = (refl, refl, refl, refl, refl, refl, refl, refl, refl, refl, refl, refl)
