-- What every form has: the cells that it names.
use Rattle.std.specs.Prelude.{ℕ, List, [], ◌∷◌}
use Rattle.plan.specs.declared.constraint.Form.{Form}
use Rattle.plan.specs.declared.constraint.Form.TheVariants.{State, Sum, Gap, Apart}

-- the cells that a form names, in the order in which it names them
abbrev pub named : Form → List ℕ
named (State c s) = c ∷ []
named (Sum a b c) = a ∷ b ∷ c ∷ []
named (Gap a d b) = a ∷ b ∷ []
named (Apart a d b e) = a ∷ b ∷ []
