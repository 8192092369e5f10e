-- What a ring means: which numbers wait, and in which order they came.
use Rattle.std.specs.Prelude.{ℕ, List}
use Rattle.sets.specs.Members.{Members}
use Rattle.sets.specs.Wide.{holds_wide}
use Rattle.agenda.specs.Orders.{in_order}
use Rattle.agenda.specs.declared.ring.Ring.{Ring}

-- The waiting numbers are those of its set.
abbrev pub waits_in : Ring → Members
waits_in ring = holds_wide ring.members

-- The waiting numbers from the oldest to the newest.
abbrev pub from_oldest : Ring → List ℕ
from_oldest ring = in_order ring.items ring.head ring.len
