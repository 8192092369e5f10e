-- How far the reading of a line has come: the texts, the draft, and the first problem found in the line.
use Rattle.std.specs.Prelude.{◌≡◌, ℕ, Ok, Err, Option, Result}
use Rattle.faults.specs.declared.Found.{Found}
use Rattle.plan.specs.Items.{Items, drafted}
use Rattle.plan.specs.Names.{Texts, texts_of}
use Rattle.meaning.specs.Making.{Grown}
use Rattle.meaning.specs.Checks.{first}
use Rattle.sheet.specs.declared.reading.Reading.{Reading}
use Rattle.sheet.specs.declared.reading.Stop.{Stop}
use Rattle.sheet.specs.declared.reading.Stop.TheVariants.{Memory}

pub record Progress : Type 0 where
  pub texts : Texts
  pub items : Items
  pub found : Option Found

abbrev pub progress : Reading → Progress
progress r = record { texts = texts_of r.texts; items = drafted r.draft; found = r.found }

-- what is made may change
abbrev pub made : Progress → Items → Progress
made p d = record { texts = p.texts; items = d; found = p.found }

-- a problem may be found, unless one further to the left was
abbrev pub further : Progress → Option Found → Progress
further p f = record { texts = p.texts; items = p.items; found = first p.found f }

-- a cell was added, or memory wanted
abbrev pub Added : Result ℕ Stop → Grown → Progress → Progress → Type 0
Added (Ok c) g p e = (c ≡ g.cell) × (e ≡ made p g.then)
Added (Err r) g p e = r ≡ Memory

-- a constraint was added, or memory wanted
abbrev pub Pushed : Result (Unit {0}) Stop → Items → Progress → Progress → Type 0
Pushed (Ok u) d p e = e ≡ made p d
Pushed (Err r) d p e = r ≡ Memory
