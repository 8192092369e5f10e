-- What each kind of fact shows.
use Rattle.std.specs.Prelude.{◌≡◌, ◌<◌, true, false, ◌&&◌, ◌≢◌, Decides, ℤ}
use Rattle.statements.specs.Between.{between}
use Rattle.statements.specs.Numbers.{Within}
use Rattle.statements.specs.Statements.{allowed}
use Rattle.statements.specs.declared.statement.Statement.{Statement}
use Rattle.statements.specs.declared.statement.Statement.TheVariants.{Between}
use Rattle.facts.specs.Model.{Model, Tells}

-- The laws of a kind with the meaning m.
pub record Laws {F : Type 0} (m : Model F) : Type 0 where
  -- a fact allows numbers of U only
  pub allows_within : (f : F) → Within (m.allows f)
  -- what is stated allows at least the statement's numbers
  pub stated_allows : (s : Statement) (n : ℤ) → allowed s n ≡ true → m.allows (m.stated s) n ≡ true
  -- a merge allows exactly what both allow
  pub meet_allows : (f g : F) (n : ℤ) → m.allows (m.meet f g) n ≡ (m.allows f n && m.allows g n)
  pub meet_assoc : (f g h : F) → m.meet (m.meet f g) h ≡ m.meet f (m.meet g h)
  pub meet_comm : (f g : F) → m.meet f g ≡ m.meet g f
  pub meet_idem : (f : F) → m.meet f f ≡ f
  -- a narrower Between's fact tells at least the wider one's
  pub narrower_tells : (lo hi lo' hi' : ℤ) → ((n : ℤ) → between lo hi n ≡ true → between lo' hi' n ≡ true) → Tells m (m.stated (Between lo hi)) (m.stated (Between lo' hi'))
  -- an empty Between's fact tells at least every fact
  pub empty_tells : (lo hi : ℤ) → ((n : ℤ) → between lo hi n ≡ false) → (f : F) → Tells m (m.stated (Between lo hi)) f
  -- the test of equality is yes exactly where the facts are equal
  pub equal_decides : (f g : F) → Decides (m.equal f g) (f ≡ g)
  -- a merge that changes a fact has a smaller size
  pub size_falls : (f g : F) → m.meet f g ≢ f → m.size (m.meet f g) < m.size f

-- An exact kind: its Between allows exactly lo to hi.
abbrev pub Exact : {F : Type 0} → Model F → Type 0
Exact m = (lo hi n : ℤ) → m.allows (m.stated (Between lo hi)) n ≡ between lo hi n
