use Rattle.std.proofs.Common.{length}
use Rattle.plan.specs.Forms.{named}
use Rattle.plan.specs.Placements.{owned_by}
use Rattle.telling.specs.Firing.{after_deads, deads_change}
use Rattle.cells.specs.Meaning.{Inside, table_of}
use Rattle.cells.specs.Changes.{changed_cells}
use Rattle.cells.proofs.Firing.{SoFar}
use Rattle.cells.proofs.fire.make_deads.Given as goal

abbrev pub invariant-loop-x : goal.invariant-loop-x
invariant-loop-x g l =
    let m = g.K.Kind.model in
    let ps = owned_by l.fn.k.owner in
    let ns = named l.fn.k.form in
    record {
      inside : Inside (length l.table) l.x-iterator;
      so_far : SoFar (after_deads m ps ns) (deads_change m ps ns) ns (table_of m l.initial.table) l.x-iterator (table_of m l.table) (changed_cells l.out);
    }
