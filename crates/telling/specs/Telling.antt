-- Telling: what a tell says and when it is made, a cell that is told, and a table after a tell.
use Rattle.std.specs.Prelude.{ℕ, Bool, cond, ℤ}
use Rattle.facts.specs.Model.{Model}
use Rattle.facts.specs.Derived.{low, high, tidy, told}
use Rattle.plan.specs.Placements.{Premises}
use Rattle.forms.specs.Tells.{reads, holds, said}
use Rattle.forms.specs.declared.tell.Tell.{Tell}
use Rattle.telling.specs.Reasons.{Reasons, together, premises_only}
use Rattle.telling.specs.Tables.{Cell, Table, upd, facts, reasons_of}

module _ {F : Type 0} (m : Model F) where
  -- The lowest of each fact.
  abbrev pub lows : (ℕ → F) → ℕ → ℤ
  lows φ x = low m (φ x)

  -- The highest of each fact.
  abbrev pub highs : (ℕ → F) → ℕ → ℤ
  highs φ x = high m (φ x)

  -- Is the tell made: does its condition hold of these facts?
  abbrev pub is_made : (ℕ → F) → Tell → Bool
  is_made φ t = holds (lows φ) (highs φ) t.condition

  -- The fact that the tell says, of these facts.
  abbrev pub said_fact : (ℕ → F) → Tell → F
  said_fact φ t = m.stated (said (lows φ) (highs φ) t.saying)

  -- A cell told g for reasons s. Where that leaves its fact, nothing changes; where it leaves what g says by itself, s alone are the reasons.
  unfoldable pub told_cell : F → Reasons → Cell F → Cell F
  told_cell g s c =
      let h = told m g c.fact in
      cond (m.equal h c.fact) c (record { fact = h; reasons = cond (m.equal h (tidy m g)) s (together c.reasons s) })

  -- The reasons of a tell of a constraint with these premises: they, and those of each cell that the tell or its condition reads.
  abbrev pub tell_reasons : Premises → Tell → Table F → Reasons
  tell_reasons ps t T = together (premises_only ps) (reasons_of T (reads t))

  -- The table with cell x told g for reasons s.
  unfoldable pub after_told : ℕ → F → Reasons → Table F → Table F
  after_told x g s T = upd T x (told_cell g s (T x))

  -- The table after a tell of a constraint with these premises.
  unfoldable pub after_tell : Premises → Tell → Table F → Table F
  after_tell ps t T = cond (is_made (facts T) t) (after_told t.target (said_fact (facts T) t) (tell_reasons ps t T) T) T
