-- The least member is the lowest one of the first marked part.
use Rattle.std.proofs.Common.{true, rules}
use Rattle.sets.specs.Members.{Nobody}
use Rattle.sets.specs.Parts.{in_parts}
use Rattle.sets.proofs.Parts.{marked_there, marks_tell, first-least}
use Rattle.sets.proofs.wide.Set512.lowest.Goals as goal

pub returns-in_err-i : goal.returns-in_err-i
returns-in_err-i c =
    let s = c.args.self.now in
    let none : Nobody (in_parts s.parts) = marks_tell s.used s.parts (search rules) s.marks s.fits true (search rules) in
    search rules

pub bounds-self-i : goal.bounds-self-i
bounds-self-i c = let s = c.args.self.now in marked_there s.used s.parts (search rules) s.marks s.fits _ (search rules)

pub returns : goal.returns
returns c = let s = c.args.self.now in first-least s.used s.parts (search rules) s.marks s.fits _ _ (search rules) (search rules)
