-- The parts of the cells: each lies among the numbers.
use Rattle.std.specs.Prelude.{◌≡◌, ℕ, ◌+◌, ◌≤◌, List, [], Some, map, slice_index_or}
use Rattle.std.specs.List.{between, slice_get}
use Rattle.wakes.specs.declared.part.Part.{Part}

-- The numbers in a part.
abbrev pub in_part : List ℕ → Part → List ℕ
in_part numbers p = between p.start (p.start + p.len) numbers

-- The numbers in the part of a cell; a cell that there is not has none.
abbrev pub part_at : List Part → List ℕ → ℕ → List ℕ
part_at parts numbers cell = slice_index_or (map (in_part numbers) parts) cell []

-- No part goes past the first n numbers.
abbrev pub Inside : List Part → ℕ → Type 0
Inside parts n = (x : ℕ) (p : Part) → slice_get parts x ≡ Some p → p.start + p.len ≤ n
