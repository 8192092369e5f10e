-- Kinds in which facts that allow the same numbers are equal owe less: their merge is lawful by its numbers alone.
use Rattle.std.proofs.Common.{◌≡◌, true, ◌&&◌, ℤ, sym, ◌∙◌}
use Rattle.std.proofs.lemmas.Bool.{and_from, and_parts}
use Rattle.facts.specs.Model.{Model, Tells}

module _ {F : Type 0} (m : Model F)
    (meet_allows : (f g : F) (n : ℤ) → m.allows (m.meet f g) n ≡ (m.allows f n && m.allows g n))
    (ext : (f g : F) → ((n : ℤ) → m.allows f n ≡ true → m.allows g n ≡ true) → ((n : ℤ) → m.allows g n ≡ true → m.allows f n ≡ true) → f ≡ g) where
  of_left : (f g : F) (n : ℤ) → m.allows (m.meet f g) n ≡ true → m.allows f n ≡ true
  of_left f g n e = (and_parts (m.allows f n) (m.allows g n) (sym (meet_allows f g n) ∙ e)).0

  of_right : (f g : F) (n : ℤ) → m.allows (m.meet f g) n ≡ true → m.allows g n ≡ true
  of_right f g n e = (and_parts (m.allows f n) (m.allows g n) (sym (meet_allows f g n) ∙ e)).1

  of_both : (f g : F) (n : ℤ) → m.allows f n ≡ true → m.allows g n ≡ true → m.allows (m.meet f g) n ≡ true
  of_both f g n p q = meet_allows f g n ∙ and_from _ _ p q

  pub ext_assoc : (f g h : F) → m.meet (m.meet f g) h ≡ m.meet f (m.meet g h)
  ext_assoc f g h =
      ext (m.meet (m.meet f g) h) (m.meet f (m.meet g h))
      (λ n e. let p = of_left (m.meet f g) h n e in of_both f (m.meet g h) n (of_left f g n p) (of_both g h n (of_right f g n p) (of_right (m.meet f g) h n e)))
      (λ n e. let p = of_right f (m.meet g h) n e in of_both (m.meet f g) h n (of_both f g n (of_left f (m.meet g h) n e) (of_left g h n p)) (of_right g h n p))

  pub ext_comm : (f g : F) → m.meet f g ≡ m.meet g f
  ext_comm f g =
      ext (m.meet f g) (m.meet g f) (λ n e. of_both g f n (of_right f g n e) (of_left f g n e)) (λ n e. of_both f g n (of_right g f n e) (of_left g f n e))

  pub ext_idem : (f : F) → m.meet f f ≡ f
  ext_idem f = ext (m.meet f f) f (λ n e. of_left f f n e) (λ n e. of_both f f n e e)

  -- A fact that allows no more tells at least as much.
  pub ext_tells : (f g : F) → ((n : ℤ) → m.allows f n ≡ true → m.allows g n ≡ true) → Tells m f g
  ext_tells f g h = ext (m.meet f g) f (λ n e. of_left f g n e) (λ n e. of_both f g n e (h n e))
