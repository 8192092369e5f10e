-- The worked examples of firing.
use Rattle.std.specs.Prelude.{◌≡◌, ℕ, List, [], ◌∷◌, map, pos, None, slice_index_or}
use Rattle.statements.specs.Numbers.{top, bottom}
use Rattle.kinds.specs.Span.{cut, span_of, span_model}
use Rattle.kinds.specs.declared.span.Span.{Span}
use Rattle.plan.specs.Forms.{named}
use Rattle.plan.specs.declared.constraint.Form.{Form}
use Rattle.plan.specs.declared.constraint.Form.TheVariants.{Sum, Apart}
use Rattle.telling.specs.Tables.{facts, bare}
use Rattle.telling.specs.Firing.{fired}

-- An example: a form, the spans of the cells from 0 on before it is fired, and those of the cells that it names afterwards.
pub record Example : Type 0 where
  pub form : Form
  pub before : List Span
  pub after : List Span

-- The table of some spans; past them nothing is known.
abbrev pub row : List Span → ℕ → Span
row xs x = slice_index_or xs x (cut bottom top)

-- What an example says.
abbrev pub Holds : Example → Type 0
Holds e = map (facts (fired span_model (record { owner = None; form = e.form }) (bare (row e.before)))) (named e.form) ≡ e.after

-- The span of two numbers from 0 on.
abbrev pub span : ℕ → ℕ → Span
span lo hi = cut (pos lo) (pos hi)

-- The worked examples: a sum narrows all its cells, an apart settles both, and a sum past M is a conflict.
abbrev pub examples : List Example
examples =
    record { form = Sum 0 1 2; before = span 2 3 ∷ span 10 20 ∷ span 0 15 ∷ []; after = span 2 3 ∷ span 10 13 ∷ span 12 15 ∷ [] }
    ∷ record { form = Apart 0 4 1 8; before = span 0 10 ∷ span 2 3 ∷ []; after = span 10 10 ∷ span 2 2 ∷ [] }
    ∷ record { form = Sum 0 1 2; before = cut top top ∷ span 1 1 ∷ []; after = cut top top ∷ span 1 1 ∷ span_of None ∷ [] }
    ∷ []
