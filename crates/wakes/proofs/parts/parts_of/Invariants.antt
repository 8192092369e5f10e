-- What the walk over the cells keeps.
use Rattle.std.proofs.Common.{◌≡◌, ◌≤◌, length, map, vec_items, vec_capacity}
use Rattle.std.specs.List.{range_with_len}
use Rattle.sets.specs.Members.{listed}
use Rattle.wakes.specs.Naming.{naming}
use Rattle.wakes.specs.Parts.{in_part, Inside}
use Rattle.wakes.proofs.Totals.{total}
use Rattle.wakes.proofs.parts.parts_of.Given as goal

-- The parts of the cells so far are there, with room for the others.
abbrev pub invariant-loop-cell : goal.invariant-loop-cell
invariant-loop-cell l =
    record {
      room : l.cells ≤ vec_capacity l.parts;
      inside : Inside (vec_items l.parts) (length (vec_items l.numbers));
      size : length (vec_items l.numbers) ≡ total (naming l.constraints) (length l.constraints) l.cell;
      parts : map (in_part (vec_items l.numbers)) (vec_items l.parts) ≡ map (λ x. listed (naming l.constraints x) (length l.constraints)) (range_with_len 0 l.cell);
    }
