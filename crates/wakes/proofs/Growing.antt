-- Parts that lie in a list of numbers, as the list grows.
use Rattle.std.proofs.Common.{◌≡◌, ℕ, zero, suc, ◌+◌, ◌-◌, ◌≤◌, List, [], ◌∷◌, ◌++◌, length, map, drop, take, sym, refl, ap, ◌∙◌, arith, length-append}
use Rattle.std.specs.List.{between}
use Rattle.std.proofs.lemmas.List.{take_all, drop_at, take-append-le, map-append}
use Rattle.std.proofs.lemmas.Slice.{between_is}
use Rattle.wakes.specs.Parts.{in_part, Inside}
use Rattle.wakes.specs.declared.part.Part.{Part}

-- What lies before the end stays as numbers are added.
between_front : (xs ys : List ℕ) (i j : ℕ) → j ≤ length xs → between i j (xs ++ ys) ≡ between i j xs
between_front xs ys i j l = between_is (xs ++ ys) i j ∙ ap (drop i) (take-append-le j xs ys l) ∙ sym (between_is xs i j)

-- The numbers added lie between the old end and the new one.
between_back : (xs ys : List ℕ) (i j : ℕ) → i ≡ length xs → j ≡ length (xs ++ ys) → between i j (xs ++ ys) ≡ ys
between_back xs ys i j e f = ap (take (j - i)) (drop_at xs ys i (sym e)) ∙ take_all (j - i) ys (omega (arith, length-append xs ys))

-- Where there is no part, none goes past the numbers.
pub inside_no_part : (n : ℕ) → Inside [] n
inside_no_part n x p at = let z : ◌≡◌ {A = ℕ} 0 1 = cc in absurd (omega arith)

-- One more part may go past the numbers that there were, but not past those that there are.
pub inside_next_part : (parts : List Part) (p : Part) (n m : ℕ) → Inside parts n → n ≤ m → p.start + p.len ≤ m → Inside (parts ++ (p ∷ [])) m
inside_next_part [] p n m known l k zero q at = let e : p ≡ q = cc in omega (arith, ap (λ (r : Part). r.start + r.len) e)
inside_next_part [] p n m known l k (suc x) q at = let z : ◌≡◌ {A = ℕ} 0 1 = cc in absurd (omega arith)
inside_next_part (r ∷ parts) p n m known l k zero q at = omega (arith, known zero q at)
inside_next_part (r ∷ parts) p n m known l k (suc x) q at = inside_next_part parts p n m (λ y. known (suc y)) l k x q at

-- The parts that are there hold what they held.
parts_front : (parts : List Part) (xs ys : List ℕ) → Inside parts (length xs) → map (in_part (xs ++ ys)) parts ≡ map (in_part xs) parts
parts_front [] xs ys known = refl
parts_front (p ∷ parts) xs ys known =
    ap (λ r. r ∷ map (in_part (xs ++ ys)) parts) (between_front xs ys p.start (p.start + p.len) (known zero p refl))
    ∙ ap (λ r. in_part xs p ∷ r) (parts_front parts xs ys (λ y. known (suc y)))

-- One more part holds the numbers added.
pub parts_more : (parts : List Part) (p : Part) (xs ys : List ℕ) → Inside parts (length xs) → p.start ≡ length xs → p.start + p.len ≡ length (xs ++ ys)
    → map (in_part (xs ++ ys)) (parts ++ (p ∷ [])) ≡ map (in_part xs) parts ++ (ys ∷ [])
parts_more parts p xs ys known e f =
    map-append (in_part (xs ++ ys)) parts (p ∷ [])
    ∙ ap (λ r. r ++ (in_part (xs ++ ys) p ∷ [])) (parts_front parts xs ys known)
    ∙ ap (λ r. map (in_part xs) parts ++ (r ∷ [])) (between_back xs ys p.start (p.start + p.len) e f)
