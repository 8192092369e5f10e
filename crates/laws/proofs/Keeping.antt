-- The keeping rule keeps what holds of each conflict, keeps conflicts apart, and at most 64.
use Rattle.std.proofs.Common.{◌≡◌, ◌≤◌, Bool, true, false, cond, not, leb, List, [], ◌∷◌, ◌++◌, length, filter, arith}
use Rattle.std.specs.List.{AllByRecursion}
use Rattle.std.proofs.lemmas.List.{length_push}
use Rattle.std.proofs.lemmas.List.Sums.{length-filter, count_by-le-length}
use Rattle.std.proofs.lemmas.Bool.{cond_both, not-true, leb-false}
use Rattle.plan.specs.Placements.{Premises}
use Rattle.telling.specs.Tables.{any}
use Rattle.telling.proofs.Cases.{any_none, all_both}
use Rattle.calls.specs.Networks.{within}
use Rattle.calls.specs.Keeping.{not_above, keep}
use Rattle.laws.specs.Inside.{Apart, KeepsApart}
use Rattle.laws.proofs.Numbered.{all_push, all_kept, kept_pass}

-- What holds of the new conflict and of each kept one holds of each kept one afterwards.
pub keep_all : (P : Premises → Type 0) (r : Premises) (ks : List Premises) → P r → AllByRecursion P ks → AllByRecursion P (keep r ks)
unfolding keep
keep_all P r ks p h =
    let rest = not_above r ks in
    let h' : AllByRecursion P rest = all_kept P (λ k. not (within r k)) ks h in
    cond_both (any (λ k. within k r) ks) ks (cond (leb 64 (length rest)) rest (rest ++ (r ∷ []))) (AllByRecursion P)
    (λ e. h)
    (λ e. cond_both (leb 64 (length rest)) rest (rest ++ (r ∷ [])) (AllByRecursion P) (λ f. h') (λ f. all_push P rest r h' p))

-- One kept set and another lie apart.
abbrev Parted : Premises → Premises → Type 0
Parted k j = (within k j ≡ false) × (within j k ≡ false)

kept_apart : (p : Premises → Bool) (ks : List Premises) → Apart ks → Apart (filter p ks)
kept_apart p [] h = tt
kept_apart p (k ∷ ks) h =
    cond_both (p k) (k ∷ filter p ks) (filter p ks) Apart
    (λ e. (all_kept (Parted k) p ks h.0, kept_apart p ks h.1))
    (λ e. kept_apart p ks h.1)

push_apart : (ks : List Premises) (r : Premises) → Apart ks → AllByRecursion (λ k. Parted k r) ks → Apart (ks ++ (r ∷ []))
push_apart [] r h a = (tt, tt)
push_apart (k ∷ ks) r h a = (all_push (Parted k) ks r h.0 a.0, push_apart ks r h.1 a.1)

pub keeps_apart : KeepsApart
unfolding keep
keeps_apart = record {
  keep_apart = λ r ks h.
      let p = λ (k : Premises). not (within r k) in
      let rest = not_above r ks in
      let h' : Apart rest = kept_apart p ks h in
      cond_both (any (λ k. within k r) ks) ks (cond (leb 64 (length rest)) rest (rest ++ (r ∷ []))) Apart
      (λ e. h)
      (λ e. cond_both (leb 64 (length rest)) rest (rest ++ (r ∷ [])) Apart (λ f. h')
      (λ f. push_apart rest r h'
      (all_both (λ k. within k r ≡ false) (λ k. not (within r k) ≡ true) (λ k. Parted k r) (λ k a b. (a, not-true (within r k) b)) rest
      (all_kept (λ k. within k r ≡ false) p ks (any_none (λ k. within k r) ks e)) (kept_pass p ks))));
  keep_few = λ r ks h.
      let p = λ (k : Premises). not (within r k) in
      let rest = not_above r ks in
      let le : length rest ≤ length ks = omega (arith, length-filter p ks, count_by-le-length p ks) in
      cond_both (any (λ k. within k r) ks) ks (cond (leb 64 (length rest)) rest (rest ++ (r ∷ []))) (λ z. length z ≤ 64)
      (λ e. h)
      (λ e. cond_both (leb 64 (length rest)) rest (rest ++ (r ∷ [])) (λ z. length z ≤ 64) (λ f. omega arith)
      (λ f. let a = leb-false 64 (length rest) f in let b = length_push rest r in omega arith));
}
