-- What lines build is sound, and has the solutions of the lines.
use Rattle.meaning.proofs.meaning_stands.Goals as goal
use Rattle.meaning.proofs.Sound.{built_sound}
use Rattle.meaning.proofs.Solving.{built_solves}

-- src/lib.rt:5:1
pub returns : goal.returns
returns c = record { solves = built_solves; sound = λ ts ls d b. built_sound b }
