-- Telling what the entries of a trail say.
use Rattle.std.proofs.Common.{◌≡◌, ℕ, suc, ◌<◌, ◌≤◌, true, eqb, List, [], ◌∷◌, Some, sym, refl, ◌∙◌, subst, arith}
use Rattle.std.specs.List.{AllByRecursion}
use Rattle.std.proofs.lemmas.Bool.{cond_both, cond-true, eqb-true, eq-eqb, lt-ltb}
use Rattle.std.specs.Cmp.Derive.{both_true}
use Rattle.statements.specs.Numbers.{top, bottom}
use Rattle.statements.proofs.Tests.{test_clash}
use Rattle.facts.specs.Model.{Model, Tells}
use Rattle.facts.specs.Laws.{Laws}
use Rattle.facts.specs.Derived.{none}
use Rattle.facts.proofs.Order.{tells_trans, between-allows, start-allows}
use Rattle.facts.proofs.TidyLaws.{tidy_allows, told-allows}
use Rattle.plan.specs.Placements.{Placement, Placed, Premises}
use Rattle.telling.specs.Reasons.{premise, guess, Among}
use Rattle.telling.specs.Tables.{Table, facts}
use Rattle.telling.proofs.Cover.{Cover, after_told-sound}
use Rattle.telling.proofs.Fires.{Below, below_refl, below_trans, after_told_below, after_told-fact}
use Rattle.telling.proofs.Fits.{Fits, after_told-fits}
use Rattle.telling.proofs.Tells.{told-says}
use Rattle.calls.specs.Networks.{Net}
use Rattle.calls.specs.Running.{Clean}
use Rattle.calls.specs.Trails.{Entry, guessed, forced, Trail, guesses, guess_at, is_guess, Word, word_of, words}
use Rattle.calls.specs.Searching.{after_word, after_words}
use Rattle.laws.specs.Inside.{IsTold}
use Rattle.laws.proofs.Live.{at_hand, MeetsGuess, MeetsReasons, Lying}
use Rattle.laws.proofs.Trails.{Sub, sub_tail, at_hand_sub, at_hand_opened, meets_shorter, meets-among, TrueEntry, TrueTrail}
use Rattle.laws.proofs.Numbered.{all_push}

module _ {F : Type 0} (m : Model F) (l : Laws m) (N : Net) where
  -- ---- what is told

  pub after_word_below : (w : Word) (T : Table F) → Below m (facts (after_word m w T)) (facts T)
  after_word_below w T = after_told_below m l w.cell (m.stated w.says) w.reasons T

  pub after_words_below : (ws : List Word) (T : Table F) → Below m (facts (after_words m ws T)) (facts T)
  unfolding after_words
  after_words_below [] T = below_refl m l (facts T)
  after_words_below (w ∷ ws) T =
      let T' = after_word m w T in
      cond_both (none m (T' w.cell).fact) T' (after_words m ws T') (λ z. Below m (facts z) (facts T))
      (λ e. after_word_below w T)
      (λ e. below_trans m l (facts (after_words m ws T')) (facts T') (facts T) (after_words_below ws T') (after_word_below w T))

  pub after_word-told : (w : Word) (T : Table F) → IsTold m N (after_word m w T) w
  after_word-told w T =
      subst (λ z. Tells m z (m.stated w.says)) (sym (after_told-fact m l w.cell (m.stated w.says) w.reasons T)) (told-says m l (m.stated w.says) (T w.cell).fact)

  -- What is told stays told as facts narrow.
  pub is_told_below : (T T' : Table F) → Below m (facts T') (facts T) → (w : Word) → IsTold m N T w → IsTold m N T' w
  is_told_below T T' b w h = tells_trans m l (T' w.cell).fact (T w.cell).fact (m.stated w.says) (b w.cell) h

  -- Where no cell is in conflict afterwards, all was told.
  pub after_words-told : (ws : List Word) (T : Table F) → AllByRecursion (λ w. w.cell < N.cells) ws → Clean m N (after_words m ws T) → AllByRecursion (IsTold m N (after_words m ws T)) ws
  unfolding after_words
  after_words-told [] T lt clean = tt
  after_words-told (w ∷ ws) T lt clean =
      let T' = after_word m w T in
      cond_both (none m (T' w.cell).fact) T' (after_words m ws T') (λ z. Clean m N z → AllByRecursion (IsTold m N z) (w ∷ ws))
      (λ e c. test_clash e (c w.cell lt.0))
      (λ e c. (is_told_below T' (after_words m ws T') (after_words_below ws T') w (after_word-told w T), after_words-told ws T' lt.1 c))
      clean

  -- ---- true words

  module _ (Sort : Placement → Type 0) (placed : (v : Placement) → Sort v → Placed v) (force : Premises) where
    -- A word about a cell of the network, for reasons at hand, that allows the number of every placement that meets these.
    pub record TrueWord (t : Trail) (w : Word) : Type 0 where
      pub of_cell : w.cell < N.cells
      pub scope : Among w.reasons (at_hand force t)
      pub allows : (v : Placement) → Sort v → MeetsReasons N v t w.reasons → m.allows (m.stated w.says) (v w.cell) ≡ true

    pub word_of-true : (t : Trail) (e : Entry) (es : Trail) → Sub (e ∷ es) t → TrueEntry N Sort force e es → TrueWord t (word_of (guesses es) e)
    word_of-true t (guessed c n) es s h =
        let g = guesses es in
        let f = s.fewer in
        let here : guess_at g t ≡ Some (c, n) = s.means g (omega arith) ∙ cond-true (eqb g g) (Some (c, n)) (guess_at g es) (eq-eqb g g refl) in
        record {
          of_cell = h;
          scope = mine g f;
          allows = λ v P met. between-allows m l bottom n (v c) (placed v P c) (placed v P c).0 (subst (MeetsGuess v) here (met.guesses_met g (eq-eqb g g refl)));
        }
      where
        mine : (g : ℕ) → suc g ≤ guesses t → Among (is_guess g) (at_hand force t)
        mine g f (premise p) e = test_clash e refl
        mine g f (guess j) e = let same = eqb-true g j e in lt-ltb j (guesses t) (omega arith)
    word_of-true t (forced c n r) es s h =
        let s' = sub_tail (forced c n r) es t s in
        let sure = h.1 in
        record {
          of_cell = h.0;
          scope = λ g e. at_hand_sub force es t s' g (sure.scope g e);
          allows = λ v P met. between-allows m l n top (v c) (placed v P c) (sure.holds v P (meets_shorter N v es t r s' (at_hand_opened force es r sure.scope) met)) (placed v P c).1;
        }

    pub words-true : (t es : Trail) → Sub es t → TrueTrail N Sort force es → AllByRecursion (TrueWord t) (words es)
    unfolding words
    words-true t [] s h = tt
    words-true t (e ∷ es) s h = all_push (TrueWord t) (words es) (word_of (guesses es) e) (words-true t es (sub_tail e es t s) h.1) (word_of-true t e es s h.0)

    -- What telling keeps: cells fit, and placements lie within.
    abbrev pub Good : Trail → Table F → Type 0
    Good t T = Fits m l (at_hand force t) T × Lying m l N Sort placed t T

    pub after_word_good : (t : Trail) (w : Word) (T : Table F) → TrueWord t w → Good t T → Good t (after_word m w T)
    after_word_good t w T true-word ok = (
      after_told-fits m l (at_hand force t) w.cell (m.stated w.says) w.reasons T ok.0 true-word.scope,
      λ v P r met.
          let cover : Cover m = record {
            r = r;
            Covers = λ x f. m.allows f (v x) ≡ true;
            covers_start = λ x. start-allows m l (v x) (placed v P x);
            covers_told = λ x f g p q. told-allows m l g f (v x) ∙ both_true p q;
            covers_tidy = λ x g p. tidy_allows m l g (v x) ∙ p;
          } in
          after_told-sound m l cover w.cell (m.stated w.says) w.reasons T (ok.1 v P r met)
          (λ held. true-word.allows v P (meets-among N v t r w.reasons held met)),
    )

    pub after_words_good : (t : Trail) (ws : List Word) (T : Table F) → AllByRecursion (TrueWord t) ws → Good t T → Good t (after_words m ws T)
    unfolding after_words
    after_words_good t [] T h ok = ok
    after_words_good t (w ∷ ws) T h ok =
        let T' = after_word m w T in
        let ok' : Good t T' = after_word_good t w T h.0 ok in
        cond_both (none m (T' w.cell).fact) T' (after_words m ws T') (Good t) (λ e. ok') (λ e. after_words_good t ws T' h.1 ok')
