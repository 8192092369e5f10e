-- The words of sample lines, which antt computes.
use Rattle.std.proofs.Common.{refl}
use Rattle.words.specs.Class.{class_of}
use Rattle.words.specs.Examples.{ReadLines, FaultyLines}

pub read_lines : ReadLines
unfolding class_of
read_lines = (refl, refl, refl, refl, refl, refl, refl)

pub faulty_lines : FaultyLines
unfolding class_of
faulty_lines = (refl, refl, refl, refl, refl, refl, refl, refl, refl)
