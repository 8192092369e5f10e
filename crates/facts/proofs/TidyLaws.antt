-- The laws of tidy, in every lawful kind.
use Rattle.std.proofs.Common.{◌≡◌, ◌<◌, Bool, true, false, ◌&&◌, ◌≢◌, ℤ, sym, refl, ap, ◌∙◌, subst, arith}
use mathlib.Core.Path.{fun_ext}
use Rattle.std.proofs.lemmas.Int.{ints}
use Rattle.statements.specs.Numbers.{top, bottom}
use Rattle.statements.specs.Search.{lowest, highest}
use Rattle.statements.specs.declared.statement.Statement.TheVariants.{Between}
use Rattle.facts.specs.Model.{Model, Tells}
use Rattle.facts.specs.Laws.{Laws}
use Rattle.facts.specs.Derived.{low, high, tidy, start, dead, told, TidyLaws}
use Rattle.facts.proofs.Order.{tells-refl, tells_trans, tells_antisym, meet-tells_left, meet-tells_right, meet-least, meet_mono, low_le, high_ge, low_in, high_in, low_mono, high_mono, between_mono, between-allows, start-allows, tells-dead}

and_absorbs : (a b : Bool) → (a ≡ true → b ≡ true) → (a && b) ≡ a
and_absorbs true b h = h refl
and_absorbs false b h = refl

module _ {F : Type 0} (m : Model F) (l : Laws m) where
  -- The fact of the Between of f's lowest and highest.
  hull : F → F
  hull f = m.stated (Between (low m f) (high m f))

  hull_mono : (f g : F) → Tells m f g → Tells m (hull f) (hull g)
  unfolding hull
  hull_mono f g p = between_mono m l (low m f) (high m f) (low m g) (high m g) (low_mono m l f g p) (high_mono m l f g p)

  tidy_hull : (f : F) → Tells m (tidy m f) (hull f)
  unfolding tidy hull
  tidy_hull f = meet-tells_right m l f (hull f)

  pub tidy_tells : (f : F) → Tells m (tidy m f) f
  unfolding tidy
  tidy_tells f = meet-tells_left m l f (m.stated (Between (low m f) (high m f)))

  to_tidy : (h f : F) → Tells m h f → Tells m h (hull f) → Tells m h (tidy m f)
  unfolding tidy hull
  to_tidy h f p q = meet-least m l h f (hull f) p q

  pub tidy_allows : (f : F) (n : ℤ) → m.allows (tidy m f) n ≡ m.allows f n
  unfolding tidy
  tidy_allows f n =
      let g = m.stated (Between (low m f) (high m f)) in
      l.meet_allows f g n ∙ and_absorbs (m.allows f n) (m.allows g n)
      (λ h. between-allows m l (low m f) (high m f) n (l.allows_within f n h) (low_le m l f n h) (high_ge m l f n h))

  pub tidy-low : (f : F) → low m (tidy m f) ≡ low m f
  unfolding low
  tidy-low f = ap lowest (fun_ext (tidy_allows f))

  pub tidy-high : (f : F) → high m (tidy m f) ≡ high m f
  unfolding high
  tidy-high f = ap highest (fun_ext (tidy_allows f))

  hull_tidy : (f : F) → hull (tidy m f) ≡ hull f
  unfolding hull
  hull_tidy f = λ i. m.stated (Between (tidy-low f i) (tidy-high f i))

  pub tidy_idem : (f : F) → tidy m (tidy m f) ≡ tidy m f
  tidy_idem f =
      tells_antisym m l (tidy m (tidy m f)) (tidy m f) (tidy_tells (tidy m f))
      (to_tidy (tidy m f) (tidy m f) (tells-refl m l (tidy m f)) (subst (λ z. Tells m (tidy m f) z) (sym (hull_tidy f)) (tidy_hull f)))

  pub tidy_mono : (f g : F) → Tells m f g → Tells m (tidy m f) (tidy m g)
  tidy_mono f g p =
      to_tidy (tidy m f) g (tells_trans m l (tidy m f) f g (tidy_tells f) p)
      (tells_trans m l (tidy m f) (hull f) (hull g) (tidy_hull f) (hull_mono f g p))

  -- ---- the start and the dead fact

  hull_start : (f : F) → Tells m (hull f) (start m)
  unfolding hull start
  hull_start f = between_mono m l (low m f) (high m f) bottom top (low_in m l f).0 (high_in m l f).1

  pub tidy_tells-start : (f : F) → Tells m (tidy m f) (start m)
  tidy_tells-start f = tells_trans m l (tidy m f) (hull f) (start m) (tidy_hull f) (hull_start f)

  pub tidy_start : (f : F) → tidy m f ≡ f → Tells m f (start m)
  tidy_start f e = subst (λ z. Tells m z (start m)) e (tidy_tells-start f)

  start_hull : Tells m (start m) (hull (start m))
  unfolding start hull
  start_hull =
      between_mono m l bottom top (low m (start m)) (high m (start m))
      (low_le m l (start m) bottom (start-allows m l bottom (omega (arith, ints), omega (arith, ints))))
      (high_ge m l (start m) top (start-allows m l top (omega (arith, ints), omega (arith, ints))))

  pub start_tidy : tidy m (start m) ≡ start m
  start_tidy =
      tells_antisym m l (tidy m (start m)) (start m) (tidy_tells (start m)) (to_tidy (start m) (start m) (tells-refl m l (start m)) start_hull)

  pub dead-tidy : tidy m (dead m) ≡ dead m
  dead-tidy = tells-dead m l (tidy m (dead m)) (tidy_tells (dead m))

  -- ---- being told

  pub told-allows : (g f : F) (n : ℤ) → m.allows (told m g f) n ≡ (m.allows f n && m.allows g n)
  unfolding told
  told-allows g f n = tidy_allows (m.meet f g) n ∙ l.meet_allows f g n

  -- Being told is one merge.
  told-meet : (g f : F) → told m g f ≡ m.meet f (m.meet g (hull (m.meet f g)))
  unfolding told tidy hull
  told-meet g f = l.meet_assoc f g (hull (m.meet f g))

  -- Being told something new makes a fact smaller.
  pub told-size_falls : (g f : F) → told m g f ≢ f → m.size (told m g f) < m.size f
  told-size_falls g f ne =
      let h = m.meet g (hull (m.meet f g)) in
      subst (λ z. m.size z < m.size f) (sym (told-meet g f)) (l.size_falls f h (λ e. ne (told-meet g f ∙ e)))

  pub told-tells : (g f : F) → Tells m (told m g f) f
  unfolding told
  told-tells g f = tells_trans m l (tidy m (m.meet f g)) (m.meet f g) f (tidy_tells (m.meet f g)) (meet-tells_left m l f g)

  pub told_mono : (g g' f f' : F) → Tells m g g' → Tells m f f' → Tells m (told m g f) (told m g' f')
  unfolding told
  told_mono g g' f f' p q = tidy_mono (m.meet f g) (m.meet f' g') (meet_mono m l f f' g g' q p)

  pub told-tidy : (g f : F) → tidy m (told m g f) ≡ told m g f
  unfolding told
  told-tidy g f = tidy_idem (m.meet f g)

  pub tidy_laws : TidyLaws m
  tidy_laws = record {
    tidy_allows = tidy_allows;
    tidy_tells = tidy_tells;
    tidy_idem = tidy_idem;
    tidy_mono = tidy_mono;
    tidy_start = tidy_start;
    start_tidy = start_tidy;
  }
