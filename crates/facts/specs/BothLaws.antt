-- Both of two lawful kinds is lawful, and exact where its first part is.
use Rattle.std.specs.Prelude.{◌≡◌, ◌<◌, ◌≤◌, Bool, true, false, ◌&&◌, ◌≢◌, refl}
use Rattle.std.proofs.Common.{sym, subst, ap, ap₂, ◌∙◌, le_refl, arith}
use Rattle.statements.specs.declared.statement.Statement.TheVariants.{Between}
use Rattle.std.proofs.lemmas.Bool.{and_from, and_parts}
use Rattle.std.proofs.lemmas.Bool.Decides.{Decides-and}
use Rattle.statements.proofs.Tests.{test_cases, test_clash}
use Rattle.facts.specs.Model.{Model}
use Rattle.facts.specs.Laws.{Laws, Exact}
use Rattle.facts.specs.Both.{both_model}
use Rattle.facts.specs.declared.both.Both.{Both}

pub both_ext : {A B : Type 0} (f g : Both A B) → f.first ≡ g.first → f.second ≡ g.second → f ≡ g
both_ext f g p q = λ i. record { first = p i; second = q i }

and_swap : (a b c d : Bool) → ((a && b) && (c && d)) ≡ ((a && c) && (b && d))
and_swap true true c d = refl
and_swap true false true d = refl
and_swap true false false d = refl
and_swap false b c d = refl

-- No merge has a larger size.
size_le : {F : Type 0} (m : Model F) → Laws m → (f g : F) → m.size (m.meet f g) ≤ m.size f
size_le m l f g =
    test_cases (m.equal (m.meet f g) f)
    (λ e. subst (λ z. m.size z ≤ m.size f) (sym ((l.equal_decides (m.meet f g) f).0 e)) (le_refl (m.size f)))
    (λ e. let h = l.size_falls f g (λ p. test_clash ((l.equal_decides (m.meet f g) f).1 p) e) in omega arith)

module _ {A : Type 0} {B : Type 0} (a : Model A) (b : Model B) (la : Laws a) (lb : Laws b) where
  both_size_falls : (f g : Both A B) → (both_model a b).meet f g ≢ f → (both_model a b).size ((both_model a b).meet f g) < (both_model a b).size f
  both_size_falls f g ne =
      let x = a.meet f.first g.first in
      let y = b.meet f.second g.second in
      let p = size_le a la f.first g.first in
      let q = size_le b lb f.second g.second in
      test_cases (a.equal x f.first)
      (λ e. let h = lb.size_falls f.second g.second (λ z. ne (both_ext _ f ((la.equal_decides x f.first).0 e) z)) in omega arith)
      (λ e. let h = la.size_falls f.first g.first (λ z. test_clash ((la.equal_decides x f.first).1 z) e) in omega arith)

  pub both_laws : Laws (both_model a b)
  both_laws = record {
    allows_within = λ f n h. la.allows_within f.first n (and_parts (a.allows f.first n) (b.allows f.second n) h).0;
    stated_allows = λ s n h. and_from _ _ (la.stated_allows s n h) (lb.stated_allows s n h);
    meet_allows = λ f g n.
        ap₂ ◌&&◌ (la.meet_allows f.first g.first n) (lb.meet_allows f.second g.second n)
        ∙ and_swap (a.allows f.first n) (a.allows g.first n) (b.allows f.second n) (b.allows g.second n);
    meet_assoc = λ f g h. both_ext _ _ (la.meet_assoc f.first g.first h.first) (lb.meet_assoc f.second g.second h.second);
    meet_comm = λ f g. both_ext _ _ (la.meet_comm f.first g.first) (lb.meet_comm f.second g.second);
    meet_idem = λ f. both_ext _ _ (la.meet_idem f.first) (lb.meet_idem f.second);
    narrower_tells = λ lo hi lo' hi' h. both_ext _ _ (la.narrower_tells lo hi lo' hi' h) (lb.narrower_tells lo hi lo' hi' h);
    empty_tells = λ lo hi h f. both_ext _ _ (la.empty_tells lo hi h f.first) (lb.empty_tells lo hi h f.second);
    equal_decides = λ f g.
        let d = Decides-and (a.equal f.first g.first) (b.equal f.second g.second) (la.equal_decides f.first g.first) (lb.equal_decides f.second g.second) in
        (λ h. let p = d.0 h in both_ext f g p.0 p.1, λ h. d.1 (ap (λ x. x.first) h, ap (λ x. x.second) h));
    size_falls = both_size_falls;
  }

  pub both_exact : Exact a → Exact (both_model a b)
  both_exact x lo hi n =
      absorb (a.allows (a.stated (Between lo hi)) n) (b.allows (b.stated (Between lo hi)) n) (λ h. lb.stated_allows (Between lo hi) n (sym (x lo hi n) ∙ h)) ∙ x lo hi n
    where
      absorb : (p q : Bool) → (p ≡ true → q ≡ true) → (p && q) ≡ p
      absorb true q h = h refl
      absorb false q h = refl
