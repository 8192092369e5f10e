-- The meaning of two kinds side by side.
use Rattle.std.specs.Prelude.{◌+◌, ◌&&◌}
use Rattle.facts.specs.Model.{Model}
use Rattle.facts.specs.declared.both.Both.{Both}

-- Both allows what both parts allow, works part by part, and adds the sizes.
abbrev pub both_model : {A B : Type 0} → Model A → Model B → Model (Both A B)
both_model a b = record {
  allows = λ f n. a.allows f.first n && b.allows f.second n;
  stated = λ s. record { first = a.stated s; second = b.stated s };
  meet = λ f g. record { first = a.meet f.first g.first; second = b.meet f.second g.second };
  equal = λ f g. a.equal f.first g.first && b.equal f.second g.second;
  size = λ f. a.size f.first + b.size f.second;
}
