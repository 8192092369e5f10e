-- Lowest, highest, tidy and telling, defined once for every kind.
use Rattle.std.specs.Prelude.{◌≡◌, ℕ, Bool, not, List, ℤ, sum_by}
use Rattle.statements.specs.Numbers.{top, bottom}
use Rattle.statements.specs.Search.{lowest, highest, allows_none}
use Rattle.statements.specs.declared.statement.Statement.TheVariants.{Between}
use Rattle.facts.specs.Model.{Model, Tells}

-- The lowest number that f allows, M where it allows none.
unfoldable pub low : {F : Type 0} → Model F → F → ℤ
low m f = lowest (m.allows f)

-- The highest number that f allows, -M where it allows none.
unfoldable pub high : {F : Type 0} → Model F → F → ℤ
high m f = highest (m.allows f)

-- Does f allow no number?
unfoldable pub none : {F : Type 0} → Model F → F → Bool
none m f = allows_none (m.allows f)

-- f merged with the Between of its lowest and highest.
unfoldable pub tidy : {F : Type 0} → Model F → F → F
tidy m f = m.meet f (m.stated (Between (low m f) (high m f)))

-- The fact of a cell of which nothing is known yet.
unfoldable pub start : {F : Type 0} → Model F → F
start m = m.stated (Between bottom top)

-- The fact that no number is allowed.
unfoldable pub dead : {F : Type 0} → Model F → F
dead m = m.stated (Between top bottom)

-- f told g: the two merged, and tidied.
unfoldable pub told : {F : Type 0} → Model F → F → F → F
told m g f = tidy m (m.meet f g)

-- Does being told g change f?
unfoldable pub changes : {F : Type 0} → Model F → F → F → Bool
changes m g f = not (m.equal (told m g f) f)

-- The sizes of the facts of a table, added.
unfoldable pub sizes : {F : Type 0} → Model F → List F → ℕ
sizes m = sum_by m.size

-- The laws of tidy.
pub record TidyLaws {F : Type 0} (m : Model F) : Type 0 where
  -- tidy allows the same numbers
  pub tidy_allows : (f : F) (n : ℤ) → m.allows (tidy m f) n ≡ m.allows f n
  -- tidy tells at least what it tidies
  pub tidy_tells : (f : F) → Tells m (tidy m f) f
  pub tidy_idem : (f : F) → tidy m (tidy m f) ≡ tidy m f
  -- what tells at least g still does when both are tidied
  pub tidy_mono : (f g : F) → Tells m f g → Tells m (tidy m f) (tidy m g)
  -- every tidy fact tells at least the start, and the start is tidy
  pub tidy_start : (f : F) → tidy m f ≡ f → Tells m f (start m)
  pub start_tidy : tidy m (start m) ≡ start m
