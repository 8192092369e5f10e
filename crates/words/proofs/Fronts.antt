-- Longest fronts, and decimal numbers read from the left.
use Rattle.std.proofs.Common.{◌≡◌, ℕ, zero, suc, ◌+◌, ◌-◌, ◌*◌, ◌<◌, ◌≤◌, Bool, true, false, cond, leb, List, [], ◌∷◌, ◌++◌, length, get_or, drop, None, sym, refl, ◌∙◌, subst, le_trans, le_refl, add-one, one-add, arith, drop-cons}
use Rattle.std.proofs.lemmas.Bool.{lt-leb}
use Rattle.std.specs.List.{AllPass, take_while, prefix_len}
use Rattle.std.proofs.lemmas.List.Elements.{All-nil, All-cons, All-head, All-tail}
use Rattle.std.proofs.lemmas.List.Sums.{take_while-cons}
use Rattle.words.specs.Words.{decimal_after, decimal, top, up_to}

pub decimal_step : (v : ℕ) (s : List ℕ) (n : ℕ) → n < length s → decimal_after v (drop n s) ≡ decimal_after (v * 10 + (get_or s n 0 - 48)) (drop (n + 1) s)
decimal_step v s n h = rw (add-one, drop-cons s n 0)

pub decimal_ge : (v : ℕ) (s : List ℕ) → v ≤ decimal_after v s
decimal_ge v [] = le_refl v
decimal_ge v (d ∷ s) = le_trans (omega arith) (decimal_ge (v * 10 + (d - 48)) s)

pub decimal-end : (v : ℕ) (s : List ℕ) (n : ℕ) → length s ≤ n → decimal_after v (drop n s) ≡ v
decimal-end v [] zero h = refl
decimal-end v [] (suc n) h = refl
decimal-end v (b ∷ s) zero h = absurd (omega arith)
decimal-end v (b ∷ s) (suc n) h = decimal-end v s n (omega arith)

-- a number that is above the largest after some digits is so after all
pub too_large : (v : ℕ) (s : List ℕ) (n : ℕ) → n < length s → decimal_after v (drop n s) ≡ decimal s → top < v * 10 + (get_or s n 0 - 48) → None ≡ up_to (decimal s)
too_large v s n h is large =
    let next = v * 10 + (get_or s n 0 - 48) in
    let above : top < decimal s = omega (arith, large, decimal_ge next (drop (n + 1) s), decimal_step v s n h, is) in
    let no : leb (decimal s) top ≡ false = lt-leb (decimal s) top above in
    rw no refl

-- each byte of the longest front passes
pub front_all : (p : ℕ → Bool) (s : List ℕ) → AllPass p (take_while p s)
front_all p [] = All-nil (λ x. p x ≡ true)
front_all p (b ∷ s) = subst (AllPass p) (sym (take_while-cons p b s)) (go (p b) refl (front_all p s))
  where
    go : (v : Bool) → p b ≡ v → AllPass p (take_while p s) → AllPass p (cond v (b ∷ take_while p s) [])
    go true e h = All-cons (λ x. p x ≡ true) b (take_while p s) e h
    go false e h = All-nil (λ x. p x ≡ true)

-- a front that is not empty begins as the bytes do
pub front-first : (p : ℕ → Bool) (b : ℕ) (s : List ℕ) → p b ≡ true → get_or (take_while p (b ∷ s)) 0 0 ≡ b
front-first p b s e = rw (take_while-cons, e) refl

-- and the next one does not, where a missing byte does not either
pub front_stops : (p : ℕ → Bool) (s : List ℕ) → p 0 ≡ false → p (get_or (drop (prefix_len p s) s) 0 0) ≡ false
front_stops p [] z = z
front_stops p (b ∷ s) z = go (p b) refl (front_stops p s z)
  where
    go : (v : Bool) → p b ≡ v → p (get_or (drop (prefix_len p s) s) 0 0) ≡ false → p (get_or (drop (cond v (1 + prefix_len p s) 0) (b ∷ s)) 0 0) ≡ false
    go true e h = rw one-add h
    go false e h = e

-- bytes that pass, before one that does not, are the longest front
pub front_exact : (p : ℕ → Bool) (w s : List ℕ) → AllPass p w → p (get_or s 0 0) ≡ false → take_while p (w ++ s) ≡ w
front_exact p [] [] h e = refl
front_exact p [] (b ∷ s) h e = rw e refl
front_exact p (x ∷ w) s h e =
    let first : p x ≡ true = All-head (λ y. p y ≡ true) x w h in
    take_while-cons p x (w ++ s) ∙ (λ i. cond (first i) (x ∷ front_exact p w s (All-tail (λ y. p y ≡ true) x w h) e i) [])

pub get_or-seam : (w s : List ℕ) → get_or (w ++ s) (length w) 0 ≡ get_or s 0 0
get_or-seam [] s = refl
get_or-seam (x ∷ w) s = get_or-seam w s
