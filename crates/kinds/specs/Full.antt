-- The meaning of the full kind.
use Rattle.facts.specs.Both.{both_model}
use Rattle.facts.specs.Model.{Model}
use Rattle.facts.specs.declared.both.Both.{Both}
use Rattle.kinds.specs.Span.{span_model}
use Rattle.kinds.specs.Align.{align_model}
use Rattle.kinds.specs.declared.align.Align.{Align}
use Rattle.kinds.specs.declared.span.Span.{Span}

-- Span and Align side by side.
abbrev pub full_model : Model (Both Span Align)
full_model = both_model span_model align_model
