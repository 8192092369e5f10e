-- Firing over spans, tell by tell.
use Rattle.std.proofs.Common.{◌≡◌, ℕ, Bool, true, false, cond, eqb, List, [], ◌∷◌, Some, None, sym, refl, ap, ◌∙◌, ap₂}
use mathlib.Core.Path.{fun_ext}
use Rattle.std.specs.List.{AllByRecursion}
use Rattle.std.proofs.lemmas.Bool.{cond-true, cond-false, or_from}
use Rattle.statements.proofs.Tests.{test_clash, test_cases, inside_made}
use Rattle.facts.specs.Derived.{none, tidy, told}
use Rattle.facts.proofs.Order.{low-allowed, none_no}
use Rattle.facts.proofs.TidyLaws.{tidy_allows}
use Rattle.kinds.specs.Span.{span_of, span_meet, span_model}
use Rattle.kinds.specs.declared.ends.Ends.{Ends}
use Rattle.kinds.specs.declared.span.Span.{Span}
use Rattle.kinds.specs.SpanLaws.{span_ext, span_laws}
use Rattle.plan.specs.Forms.{named}
use Rattle.plan.specs.Placements.{Premises, owned_by}
use Rattle.plan.specs.declared.constraint.Constraint.{Constraint}
use Rattle.forms.specs.Tells.{tells}
use Rattle.forms.specs.declared.tell.Tell.{Tell}
use Rattle.telling.specs.Tables.{Table, Cell, upd, facts, any}
use Rattle.telling.specs.Telling.{is_made, said_fact, after_told, after_tell, told_cell, tell_reasons}
use Rattle.telling.specs.Firing.{after_tells, any_in_conflict, fired}
use Rattle.telling.proofs.Tells.{told_cell-fact}

-- A span is its own tidy.
span-tidy : (f : Span) → tidy span_model f ≡ f
span-tidy f = span_ext (tidy span_model f) f (λ n e. sym (tidy_allows span_model span_laws f n) ∙ e) (λ n e. tidy_allows span_model span_laws f n ∙ e)

span-told : (g f : Span) → told span_model g f ≡ span_meet f g
unfolding told
span-told g f = span-tidy (span_meet f g)

pub span-some : (e : Ends) → none span_model (span_of (Some e)) ≡ false
span-some e = none_no span_model span_laws (span_of (Some e)) e.lo (inside_made e.lo e.hi e.lo (lib.Signed.≤ℤ_refl e.lo) e.order)

pub span_empty : none span_model (span_of None) ≡ true
span_empty = test_cases (none span_model (span_of None)) (λ e. e) (λ e. test_clash (low-allowed span_model span_laws (span_of None) e) refl)

pub any_no : {A : Type 0} (p : A → Bool) (xs : List A) → AllByRecursion (λ x. p x ≡ false) xs → any p xs ≡ false
unfolding any
any_no p [] h = refl
any_no p (x ∷ xs) h = or_from (p x) (any p xs) h.0 (any_no p xs h.1)

module _ (ps : Premises) where
  -- A tell that is made leaves its target merged with what it says.
  made : (t : Tell) (T : Table Span) (φ : ℕ → Span) (v : Span) → facts T ≡ φ → is_made span_model φ t ≡ true → span_meet (φ t.target) (said_fact span_model φ t) ≡ v → facts (after_tell span_model ps t T) ≡ upd φ t.target v
  unfolding after_tell after_told
  made t T φ v e does is =
      fun_ext λ y.
      ap (λ (Z : Table Span). (Z y).fact) (cond-true (is_made span_model (facts T) t) (after_told span_model t.target (said_fact span_model (facts T) t) (tell_reasons span_model ps t T) T) T (ap (λ χ. is_made span_model χ t) e ∙ does))
      ∙ pick (eqb t.target y) (told_cell span_model (said_fact span_model (facts T) t) (tell_reasons span_model ps t T) (T t.target)) (T y)
      ∙ ap₂ (λ a b. cond (eqb t.target y) a b)
      (told_cell-fact span_model span_laws (said_fact span_model (facts T) t) (tell_reasons span_model ps t T) (T t.target)
      ∙ span-told (said_fact span_model (facts T) t) (T t.target).fact
      ∙ ap (λ (χ : ℕ → Span). span_meet (χ t.target) (said_fact span_model χ t)) e ∙ is)
      (ap (λ (χ : ℕ → Span). χ y) e)
    where
      pick : (b : Bool) (c d : Cell Span) → (cond b c d).fact ≡ cond b c.fact d.fact
      pick true c d = refl
      pick false c d = refl

  not_made : (t : Tell) (T : Table Span) (φ : ℕ → Span) → facts T ≡ φ → is_made span_model φ t ≡ false → facts (after_tell span_model ps t T) ≡ φ
  unfolding after_tell
  not_made t T φ e off = ap facts (cond-false (is_made span_model (facts T) t) _ T (ap (λ χ. is_made span_model χ t) e ∙ off)) ∙ e

  pub tells-end : (T : Table Span) (φ : ℕ → Span) → facts T ≡ φ → facts (after_tells span_model ps [] T) ≡ φ
  unfolding after_tells
  tells-end T φ e = e

  module _ (t : Tell) (ts : List Tell) (T : Table Span) (φ χ : ℕ → Span) (e : facts T ≡ φ) where
    go_on : (ψ : ℕ → Span) → facts (after_tell span_model ps t T) ≡ ψ → none span_model (ψ t.target) ≡ false → ((T' : Table Span) → facts T' ≡ ψ → facts (after_tells span_model ps ts T') ≡ χ) → facts (after_tells span_model ps (t ∷ ts) T) ≡ χ
    unfolding after_tells
    go_on ψ h some rest =
        let T' = after_tell span_model ps t T in
        ap facts (cond-false (none span_model (T' t.target).fact) T' (after_tells span_model ps ts T') (ap (λ (χ : ℕ → Span). none span_model (χ t.target)) h ∙ some)) ∙ rest T' h

    pub tells-step : (v : Span) → is_made span_model φ t ≡ true → span_meet (φ t.target) (said_fact span_model φ t) ≡ v → none span_model (upd φ t.target v t.target) ≡ false →
        ((T' : Table Span) → facts T' ≡ upd φ t.target v → facts (after_tells span_model ps ts T') ≡ χ) → facts (after_tells span_model ps (t ∷ ts) T) ≡ χ
    tells-step v does is some rest = go_on (upd φ t.target v) (made t T φ v e does is) some rest

    pub tells_skip : is_made span_model φ t ≡ false → none span_model (φ t.target) ≡ false → ((T' : Table Span) → facts T' ≡ φ → facts (after_tells span_model ps ts T') ≡ χ) → facts (after_tells span_model ps (t ∷ ts) T) ≡ χ
    tells_skip off some rest = go_on φ (not_made t T φ e off) some rest

    pub tells_stop : (v : Span) → is_made span_model φ t ≡ true → span_meet (φ t.target) (said_fact span_model φ t) ≡ v → none span_model (upd φ t.target v t.target) ≡ true → facts (after_tells span_model ps (t ∷ ts) T) ≡ upd φ t.target v
    unfolding after_tells
    tells_stop v does is gone =
        let T' = after_tell span_model ps t T in
        let h = made t T φ v e does is in
        ap facts (cond-true (none span_model (T' t.target).fact) T' (after_tells span_model ps ts T') (ap (λ (χ : ℕ → Span). none span_model (χ t.target)) h ∙ gone)) ∙ h

-- Where no cell is in conflict a firing is its tells.
pub fired-tells : (k : Constraint) (T : Table Span) (χ : ℕ → Span) → AllByRecursion (λ x. none span_model (T x).fact ≡ false) (named k.form) → facts (after_tells span_model (owned_by k.owner) (tells k.form) T) ≡ χ → facts (fired span_model k T) ≡ χ
unfolding fired
fired-tells k T χ some e =
    ap facts (cond-false (any_in_conflict span_model (facts T) (named k.form)) _ (after_tells span_model (owned_by k.owner) (tells k.form) T) (any_no (λ x. none span_model (T x).fact) (named k.form) some)) ∙ e
