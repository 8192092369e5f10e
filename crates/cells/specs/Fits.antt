-- That a tell fits a table has at most one proof.
use Rattle.std.specs.Prelude.{ℕ, ◌<◌, List}
use Rattle.std.specs.Coded.{le_prop}
use Rattle.std.specs.List.{AllByRecursion-prop}
use Rattle.std.proofs.Math.Dec.{T_prop}
use Rattle.forms.specs.Tells.{NearCondition, NearSaying}
use Rattle.forms.specs.declared.tell.Condition.{Condition}
use Rattle.forms.specs.declared.tell.Condition.TheVariants.{Always, Above}
use Rattle.forms.specs.declared.tell.Saying.{Saying}
use Rattle.forms.specs.declared.tell.Saying.TheVariants.{Stated, Cut, Plus, Minus, From, UpTo}
use Rattle.forms.specs.declared.tell.Tell.{Tell}
use Rattle.cells.specs.Meaning.{Inside, FitTell}

NearCondition-prop : (c : Condition) → IsProp (NearCondition c)
NearCondition-prop Always = hlevel
NearCondition-prop (Above a d b) = hlevel T_prop

NearSaying-prop : (s : Saying) → IsProp (NearSaying s)
NearSaying-prop (Stated s) = hlevel
NearSaying-prop (Cut x s) = hlevel
NearSaying-prop (Plus x y) = hlevel
NearSaying-prop (Minus x y) = hlevel
NearSaying-prop (From x d) = hlevel T_prop
NearSaying-prop (UpTo x d) = hlevel T_prop

Inside-prop : (n : ℕ) (xs : List ℕ) → IsProp (Inside n xs)
Inside-prop n xs = AllByRecursion-prop (λ x. x < n) (λ x. le_prop) xs

pub FitTell-prop : (n : ℕ) (t : Tell) → IsProp (FitTell n t)
FitTell-prop n t = hlevel (NearCondition-prop, NearSaying-prop, Inside-prop, le_prop)
