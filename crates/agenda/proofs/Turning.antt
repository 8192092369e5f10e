-- A ring of 512 places as a list: its two ends, and a write behind its last item.
use Rattle.std.proofs.Common.{◌≡◌, ℕ, zero, suc, ◌+◌, ◌%◌, ◌<◌, List, [], ◌∷◌, ◌++◌, length, get_or, set, sym, refl, ap, ◌∙◌, add-one, arith, get_or-set_other, get_or-set_same}
use Rattle.agenda.specs.Orders.{in_order}

-- The first item of a ring stands at its head.
pub order_next : (items : List ℕ) (head n : ℕ) → in_order items head (suc n) ≡ (get_or items (head % 512) 0 ∷ in_order items (head + 1) n)
unfolding in_order
order_next items head n = refl

-- A ring without an item is the empty list.
pub order_none : (items : List ℕ) (head n : ℕ) → n ≡ 0 → in_order items head n ≡ []
unfolding in_order
order_none items head n e = ap (in_order items head) e

-- A head that has gone once around is where it was.
pub order_turned : (items : List ℕ) (head n : ℕ) → in_order items (head % 512) n ≡ in_order items head n
unfolding in_order
order_turned items head zero = refl
order_turned items head (suc n) =
    let e : head % 512 % 512 ≡ head % 512 = omega arith in
    let f : (head % 512 + 1) % 512 ≡ (head + 1) % 512 = omega arith in
    ap (λ i. get_or items i 0 ∷ in_order items (head % 512 + 1) n) e
    ∙ ap (λ r. get_or items (head % 512) 0 ∷ r) (sym (order_turned items (head % 512 + 1) n) ∙ ap (λ h. in_order items h n) f ∙ order_turned items (head + 1) n)

-- The last item of a ring stands before its end.
pub order_last : (items : List ℕ) (head n : ℕ) → in_order items head (suc n) ≡ in_order items head n ++ (get_or items ((head + n) % 512) 0 ∷ [])
unfolding in_order
order_last items head zero = let e : head ≡ head + 0 = omega arith in ap (λ h. get_or items (h % 512) 0 ∷ []) e
order_last items head (suc n) =
    let e : head + 1 + n ≡ head + suc n = omega arith in
    ap (λ r. get_or items (head % 512) 0 ∷ r) (order_last items (head + 1) n ∙ ap (λ h. in_order items (head + 1) n ++ (get_or items (h % 512) 0 ∷ [])) e)

-- A write outside the items leaves them as they are.
order_other : (items : List ℕ) (p v head n : ℕ) → ((i : ℕ) → i < n → (head + i) % 512 ≡ p → ⊥) → in_order (set items p v) head n ≡ in_order items head n
unfolding in_order
order_other items p v head zero h = refl
order_other items p v head (suc n) h =
    ap (λ x. x ∷ in_order (set items p v) (head + 1) n) (get_or-set_other items p (head % 512) v 0 (λ e. h 0 (omega arith) (omega arith)))
    ∙ ap (λ r. get_or items (head % 512) 0 ∷ r) (order_other items p v (head + 1) n (λ i l e. h (suc i) (omega arith) (omega arith)))

-- A write behind the last item adds one.
pub order_push : (items : List ℕ) (head n v : ℕ) → length items ≡ 512 → n < 512 → in_order (set items ((head + n) % 512) v) head (n + 1) ≡ in_order items head n ++ (v ∷ [])
order_push items head n v len l =
    let p = (head + n) % 512 in
    ap (in_order (set items p v) head) (add-one n) ∙ order_last (set items p v) head n
    ∙ ap (λ x. in_order (set items p v) head n ++ (x ∷ [])) (get_or-set_same items p v 0 (omega arith))
    ∙ ap (λ r. r ++ (v ∷ [])) (order_other items p v head n (λ i q e. omega arith))

-- The oldest item comes first, and the others follow from the next place on.
pub order-front : (items : List ℕ) (head n rest : ℕ) → head < 512 → n ≡ suc rest → in_order items head n ≡ (get_or items head 0 ∷ in_order items ((head + 1) % 512) rest)
order-front items head n rest l e =
    let at : head % 512 ≡ head = omega arith in
    ap (in_order items head) e ∙ order_next items head rest ∙ ap (λ i. get_or items i 0 ∷ in_order items (head + 1) rest) at
    ∙ ap (λ r. get_or items head 0 ∷ r) (sym (order_turned items (head + 1) rest))

-- The newest item comes last, behind all others.
pub order_back : (items : List ℕ) (head n rest : ℕ) → n ≡ suc rest → in_order items head n ≡ in_order items head rest ++ (get_or items ((head + rest) % 512) 0 ∷ [])
order_back items head n rest e = ap (in_order items head) e ∙ order_last items head rest
