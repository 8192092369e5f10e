use Rattle.std.proofs.Common.{length}
use Rattle.std.specs.List.{AllByRecursion}
use Rattle.plan.specs.Placements.{owned_by}
use Rattle.forms.specs.Tells.{tells}
use Rattle.telling.specs.Firing.{after_tells, tells_change}
use Rattle.cells.specs.Meaning.{FitTell, table_of}
use Rattle.cells.specs.Changes.{changed_cells}
use Rattle.cells.proofs.Firing.{SoFar}
use Rattle.cells.proofs.fire.make_tells.Given as goal

abbrev pub invariant-loop-t : goal.invariant-loop-t
invariant-loop-t g l =
    let m = g.K.Kind.model in
    let ps = owned_by l.fn.k.owner in
    record {
      fit : AllByRecursion (FitTell (length l.table)) l.t-iterator;
      so_far : SoFar (after_tells m ps) (tells_change m ps) (tells l.fn.k.form) (table_of m l.initial.table) l.t-iterator (table_of m l.table) (changed_cells l.out);
    }
