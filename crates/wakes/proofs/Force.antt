-- When the owner of a constraint lies within the premises in force.
use Rattle.std.proofs.Common.{◌≡◌, ℕ, zero, suc, ◌<◌, ◌≤◌, Bool, true, false, cond, not, ◌&&◌, ◌||◌, eqb, ltb, Some, None, Option, sym, refl, ap, ◌∙◌, ⊎_elim, arith}
use Rattle.std.proofs.lemmas.Bool.{cases_eq, cases_lt, eq-eqb, ne_eqb, lt-ltb, le-ltb}
use Rattle.sets.specs.Members.{Members, inside}
use Rattle.plan.specs.Placements.{Premises, owned_by}
use Rattle.plan.specs.declared.constraint.Constraint.{Constraint}
use Rattle.calls.specs.Networks.{in_force}

-- The empty set lies within every set.
inside_none : (s : Members) (n : ℕ) → inside (λ j. false) s n ≡ true
unfolding inside
inside_none s zero = refl
inside_none s (suc n) = inside_none s n

-- Of a number from n on nothing is asked.
inside_past : (s : Members) (p n : ℕ) → n ≤ p → inside (λ j. eqb j p) s n ≡ true
unfolding inside
inside_past s p zero l = refl
inside_past s p (suc n) l = ap (λ b. (not b || s n) && inside (λ j. eqb j p) s n) (ne_eqb n p (λ e. omega arith)) ∙ inside_past s p n (omega arith)

-- A number below n lies within a set that has it.
inside_one : (s : Members) (p n : ℕ) → p < n → inside (λ j. eqb j p) s n ≡ s p
unfolding inside
inside_one s p zero l = absurd (omega arith)
inside_one s p (suc n) l =
    ⊎_elim
    (λ e. ap (λ b. (not b || s n) && inside (λ j. eqb j p) s n) (eq-eqb n p e) ∙ last e)
    (λ ne. ap (λ b. (not b || s n) && inside (λ j. eqb j p) s n) (ne_eqb n p ne) ∙ inside_one s p n (omega arith))
    (cases_eq n p)
  where
    drop-true : (a b : Bool) → b ≡ true → (a && b) ≡ a
    drop-true true b e = e
    drop-true false b e = refl

    last : n ≡ p → (s n && inside (λ j. eqb j p) s n) ≡ s p
    last e = drop-true (s n) _ (inside_past s p n (omega arith)) ∙ ap s e

-- What an owner asks of the premises in force: an owner from 32 on is no premise.
abbrev pub asked : Premises → Option ℕ → Bool
asked s None = true
asked s (Some p) = cond (ltb p 32) (s p) true

-- A constraint is in force where its owner's question has the answer yes.
pub force-asked : (s : Premises) (k : Constraint) → in_force s k ≡ asked s k.owner
unfolding in_force
force-asked s k = go k.owner
  where
    go : (o : Option ℕ) → inside (owned_by o) s 32 ≡ asked s o
    go None = inside_none s 32
    go (Some p) =
        ⊎_elim
        (λ l. inside_one s p 32 l ∙ sym (ap (λ b. cond b (s p) true) (lt-ltb p 32 l)))
        (λ g. inside_past s p 32 g ∙ sym (ap (λ b. cond b (s p) true) (le-ltb p 32 g)))
        (cases_lt p 32)
