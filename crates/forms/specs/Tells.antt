-- The tells that a form makes, the cells that a tell reads, and what it says where those cells lie between given ends.
use Rattle.std.specs.Prelude.{ℕ, Bool, true, List, [], ◌∷◌, ◌++◌, ℤ, pos, ◌+ℤ◌, ◌-ℤ◌, Some, None, Option, int_lt}
use Rattle.std.specs.Option.{unwrap_or}
use Rattle.statements.specs.Numbers.{top, bottom, InU}
use Rattle.statements.specs.Search.{least_from, greatest_to}
use Rattle.statements.specs.Statements.{allowed}
use Rattle.statements.specs.declared.statement.Statement.{Statement}
use Rattle.statements.specs.declared.statement.Statement.TheVariants.{Between}
use Rattle.plan.specs.declared.constraint.Form.{Form}
use Rattle.plan.specs.declared.constraint.Form.TheVariants.{State, Sum, Gap, Apart}
use Rattle.forms.specs.declared.tell.Condition.{Condition}
use Rattle.forms.specs.declared.tell.Condition.TheVariants.{Always, Above}
use Rattle.forms.specs.declared.tell.Saying.{Saying}
use Rattle.forms.specs.declared.tell.Saying.TheVariants.{Stated, Cut, Plus, Minus, From, UpTo}
use Rattle.forms.specs.declared.tell.Tell.{Tell}

-- The tells that a form makes, in the order in which it makes them.
abbrev pub tells : Form → List Tell
tells (State c s) =
    record { target = c; condition = Always; saying = Stated s }
    ∷ record { target = c; condition = Always; saying = Cut c s }
    ∷ []
tells (Sum a b c) =
    record { target = c; condition = Always; saying = Plus a b }
    ∷ record { target = a; condition = Always; saying = Minus c b }
    ∷ record { target = b; condition = Always; saying = Minus c a }
    ∷ []
tells (Gap a d b) =
    record { target = b; condition = Always; saying = From a d }
    ∷ record { target = a; condition = Always; saying = UpTo b d }
    ∷ []
tells (Apart a d b e) =
    record { target = a; condition = Above a (pos d) b; saying = From b (pos e) }
    ∷ record { target = b; condition = Above a (pos d) b; saying = UpTo a (pos e) }
    ∷ record { target = b; condition = Above b (pos e) a; saying = From a (pos d) }
    ∷ record { target = a; condition = Above b (pos e) a; saying = UpTo b (pos d) }
    ∷ []

-- The cells that a condition reads.
abbrev pub condition_reads : Condition → List ℕ
condition_reads Always = []
condition_reads (Above a d b) = a ∷ b ∷ []

-- The cells that a saying reads.
abbrev pub saying_reads : Saying → List ℕ
saying_reads (Stated s) = []
saying_reads (Cut x s) = x ∷ []
saying_reads (Plus x y) = x ∷ y ∷ []
saying_reads (Minus x y) = x ∷ y ∷ []
saying_reads (From x d) = x ∷ []
saying_reads (UpTo x d) = x ∷ []

-- The cells that a tell reads, those of its condition first.
abbrev pub reads : Tell → List ℕ
reads t = condition_reads t.condition ++ saying_reads t.saying

-- The least number of a statement from n up, M + 1 where there is none.
unfoldable pub up : Statement → ℤ → ℤ
up s n = unwrap_or (least_from (allowed s) n) (top +ℤ pos 1)

-- The greatest number of a statement from n down, -M - 1 where there is none.
unfoldable pub down : Statement → ℤ → ℤ
down s n = unwrap_or (greatest_to (allowed s) n) (bottom -ℤ pos 1)

-- Does the condition hold where each cell x lies from lo x to hi x?
abbrev pub holds : (lo hi : ℕ → ℤ) → Condition → Bool
holds lo hi Always = true
holds lo hi (Above a d b) = int_lt (hi b) (lo a +ℤ d)

-- What is said where each cell x lies from lo x to hi x.
abbrev pub said : (lo hi : ℕ → ℤ) → Saying → Statement
said lo hi (Stated s) = s
said lo hi (Cut x s) = Between (up s (lo x)) (down s (hi x))
said lo hi (Plus x y) = Between (lo x +ℤ lo y) (hi x +ℤ hi y)
said lo hi (Minus x y) = Between (lo x -ℤ hi y) (hi x -ℤ lo y)
said lo hi (From x d) = Between (lo x +ℤ d) top
said lo hi (UpTo x d) = Between bottom (hi x -ℤ d)

-- The distance in a condition is a number of U.
abbrev pub NearCondition : Condition → Type 0
NearCondition Always = Unit {0}
NearCondition (Above a d b) = InU d

-- The distance in a saying is a number of U.
abbrev pub NearSaying : Saying → Type 0
NearSaying (Stated s) = Unit {0}
NearSaying (Cut x s) = Unit {0}
NearSaying (Plus x y) = Unit {0}
NearSaying (Minus x y) = Unit {0}
NearSaying (From x d) = InU d
NearSaying (UpTo x d) = InU d

-- The distances in a tell, if there is one, are numbers of U.
abbrev pub Near : Option Tell → Type 0
Near None = Unit {0}
Near (Some t) = NearCondition t.condition × NearSaying t.saying
