-- Each change makes a table smaller.
use Rattle.std.proofs.Common.{◌≡◌, ℕ, zero, suc, ◌<◌, ◌≤◌, true, false, sym, ◌∙◌, subst, ⊎_elim, le_refl, arith}
use Rattle.std.proofs.lemmas.Bool.{cases_eq, not-true}
use Rattle.statements.proofs.Tests.{test_clash, test_cases}
use Rattle.facts.specs.Model.{Model, Tells}
use Rattle.facts.specs.Laws.{Laws}
use Rattle.facts.proofs.TidyLaws.{told-size_falls}
use Rattle.telling.specs.Tables.{Table, facts, changed, table_size}
use Rattle.telling.specs.Firing.{fired}
use Rattle.telling.specs.Theorems.{Shrinks}
use Rattle.telling.proofs.Tells.{told_cell-fact}
use Rattle.telling.proofs.Fires.{Below, fired_below}

module _ {F : Type 0} (m : Model F) (l : Laws m) where
  pub tells-size_lt : (h f : F) → Tells m h f → m.equal f h ≡ false → m.size h < m.size f
  tells-size_lt h f p ne =
      let is : m.meet f h ≡ h = l.meet_comm f h ∙ p in
      subst (λ z. m.size z < m.size f) is (l.size_falls f h (λ e. test_clash ((l.equal_decides f h).1 (sym e ∙ is)) ne))

  pub tells-size_le : (h f : F) → Tells m h f → m.size h ≤ m.size f
  tells-size_le h f p =
      test_cases (m.equal f h)
      (λ e. subst (λ z. m.size z ≤ m.size f) ((l.equal_decides f h).0 e) (le_refl (m.size f)))
      (λ e. let q = tells-size_lt h f p e in omega arith)

  -- Facts that tell more are no larger together.
  pub below_size_le : (n : ℕ) (T' T : Table F) → Below m (facts T') (facts T) → table_size m n T' ≤ table_size m n T
  unfolding table_size
  below_size_le zero T' T b = le_refl 0
  below_size_le (suc n) T' T b =
      let p = below_size_le n T' T b in
      let q = tells-size_le (T' n).fact (T n).fact (b n) in
      omega arith

  -- Where one of them differs they are smaller.
  pub below_size_lt : (n : ℕ) (T' T : Table F) → Below m (facts T') (facts T) → (x : ℕ) → x < n → changed m T T' x ≡ true → table_size m n T' < table_size m n T
  unfolding table_size
  below_size_lt zero T' T b x lt c = absurd (omega arith)
  below_size_lt (suc n) T' T b x lt c =
      ⊎_elim
      (λ (e : x ≡ n).
      let p = below_size_le n T' T b in
      let c' : changed m T T' n ≡ true = subst (λ z. changed m T T' z ≡ true) e c in
      let q = tells-size_lt (T' n).fact (T n).fact (b n) (not-true (m.equal (T n).fact (T' n).fact) c') in
      omega arith)
      (λ ne.
      let p = below_size_lt n T' T b x (omega arith) c in
      let q = tells-size_le (T' n).fact (T n).fact (b n) in
      omega arith)
      (cases_eq x n)

  pub shrinks : Shrinks m
  shrinks = record {
    told_shrinks = λ g s c ne.
        subst (λ z. m.size z < m.size c.fact) (sym (told_cell-fact m l g s c)) (told-size_falls m l g c.fact (λ e. ne (told_cell-fact m l g s c ∙ e)));
    fired_shrinks = λ n k T x lt c. below_size_lt n (fired m k T) T (fired_below m l k T) x lt c;
    fired_not_larger = λ n k T. below_size_le n (fired m k T) T (fired_below m l k T);
  }
