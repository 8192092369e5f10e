-- The facts so far are told, the others as they were, and the changed ones counted.
use Rattle.std.proofs.Common.{◌≡◌, ◌++◌, map, take, drop, count_by}
use Rattle.facts.specs.Derived.{told, changes}
use Rattle.facts.proofs.tidy.narrow.Given as goal

abbrev pub invariant-loop-f : goal.invariant-loop-f
invariant-loop-f g l = record {
  facts : l.facts ≡ map (told g.K.Kind.model l.g) (take l.f-index l.initial.facts) ++ drop l.f-index l.initial.facts;
  count : l.changed ≡ count_by (changes g.K.Kind.model l.g) (take l.f-index l.initial.facts);
}
