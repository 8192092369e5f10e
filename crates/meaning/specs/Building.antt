-- A plan that is built line by line.
use Rattle.std.specs.Prelude.{◌≡◌, ℕ, ◌≤◌, true, List, [], ◌∷◌, ◌++◌, Some, None}
use Rattle.plan.specs.Items.{Items, nothing, sound}
use Rattle.plan.specs.Names.{Texts, part_of}
use Rattle.words.specs.Words.{top}
use Rattle.grammar.specs.Tree.{Expr, one, plus, Term, named, counted, group, Body, within, aligned, apart, at_most, Line, blank, cell, premise, constraint}
use Rattle.meaning.specs.Making.{place_of, line_makes}
use Rattle.meaning.specs.Checks.{line_fault}
use Rattle.meaning.specs.Solutions.{SameSolutions}

-- each number of an expression is at most the largest that a word may be
abbrev mutual
  pub Counts : Expr → Type 0
  Counts (one t) = TermCounts t
  Counts (plus e c t) = Counts e × TermCounts t

  pub TermCounts : Term → Type 0
  TermCounts (named n) = Unit {0}
  TermCounts (counted k) = k.value ≤ top
  TermCounts (group c e k) = Counts e

abbrev pub BodyCounts : Body → Type 0
BodyCounts (within n i lo t hi) = Unit {0}
BodyCounts (aligned n c k r) = Unit {0}
BodyCounts (apart a c x b y) = Unit {0}
BodyCounts (at_most e c f) = Counts e × Counts f

-- the name that a line declares stands at its place in the text, and the numbers of its expressions are not too large
abbrev pub Stands : Texts → ℕ → ℕ → Line → Type 0
Stands ts t o blank = Unit {0}
Stands ts t o (cell c n) = part_of ts (place_of t o n) ≡ Some n.bytes
Stands ts t o (premise c n) = part_of ts (place_of t o n) ≡ Some n.bytes
Stands ts t o (constraint w b) = BodyCounts b

-- what lines build, each at an offset of a text, with nothing wrong in any
pub data Built (ts : Texts) : List Line → Items → Type 0 where
  none : Built ts [] nothing
  more : {ls : List Line} {d : Items} → Built ts ls d → (t o : ℕ) (l : Line) → line_fault ts d l ≡ None → Stands ts t o l → Built ts (ls ++ l ∷ []) (line_makes ts t o l d)

-- whatever lines build has the solutions of the lines
abbrev pub BuiltSolves : Type 0
BuiltSolves = (ts : Texts) (ls : List Line) (d : Items) → Built ts ls d → SameSolutions ts ls d

-- and its constraints name only its own cells and premises
abbrev pub BuiltSound : Type 0
BuiltSound = (ts : Texts) (ls : List Line) (d : Items) → Built ts ls d → sound d ≡ true
