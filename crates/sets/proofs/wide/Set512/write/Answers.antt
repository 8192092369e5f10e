-- After a write the mark of the part is right again.
use Rattle.std.proofs.Common.{◌^◌, ◌<◌, length, arith, rules}
use Rattle.sets.proofs.Parts.{each_write, marks-off, marks_on}
use Rattle.sets.proofs.wide.Set512.write.Goals.{then-is_empty, else-is_empty}
use Rattle.sets.proofs.wide.Set512.write.Goals as goal

pub invariant_of-self : goal.invariant_of-self
invariant_of-self c =
    let s = c.args.self.now in
    let i = c.args.i in
    let part = c.args.part in
    let there : i < length s.parts = search rules in
    record {
      marks = elim c.if-is_empty.branch [
        | then-is_empty w ↦ rw w.self-is (marks-off s.used w.remove-self.result s.parts i part there s.marks w.if-is_empty.ensures w.remove-self.ensures)
        | else-is_empty w ↦ rw w.self-is (marks_on s.used w.insert-self.result s.parts i part there s.marks w.if-is_empty.ensures (omega arith) w.insert-self.ensures)
      ];
      fits = each_write (λ j p. p.bits < 2 ^ 32) s.parts i part there (search rules) (λ j ne. s.fits j);
    }
