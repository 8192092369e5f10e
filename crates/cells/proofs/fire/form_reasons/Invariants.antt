use Rattle.std.proofs.Common.{◌≡◌, length}
use Rattle.plan.specs.Forms.{named}
use Rattle.telling.specs.Reasons.{together}
use Rattle.telling.specs.Tables.{reasons_of}
use Rattle.cells.specs.Meaning.{Inside, tags_of, table_of}
use Rattle.cells.proofs.fire.form_reasons.Given as goal

abbrev pub invariant-loop-x : goal.invariant-loop-x
invariant-loop-x g l =
    let T = table_of g.K.Kind.model l.table in
    record { inside : Inside (length l.table) l.x-iterator; so_far : reasons_of T (named l.fn.form) ≡ together (tags_of l.all) (reasons_of T l.x-iterator) }
