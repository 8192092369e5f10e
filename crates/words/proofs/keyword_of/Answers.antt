-- The longer reserved words, by their bytes.
use Rattle.std.proofs.Common.{◌≡◌, ℕ, suc, List, [], ◌∷◌, length, get_or, codes, sym, refl, ap, arith}
use Rattle.words.specs.Keywords.{keyword_of}
use Rattle.words.proofs.keyword_of.Goals as goal

-- from place i on, the bytes of w are those of v
abbrev Spells : List ℕ → ℕ → List ℕ → Type 0
Spells w i [] = Unit {0}
Spells w i (b ∷ v) = (get_or w i 0 ≡ b) × Spells w (suc i) v

later : (a : ℕ) (w : List ℕ) (i : ℕ) (v : List ℕ) → Spells (a ∷ w) (suc i) v → Spells w i v
later a w i [] h = tt
later a w i (b ∷ v) h = (h.0, later a w (suc i) v h.1)

spelled : (w v : List ℕ) → length w ≡ length v → Spells w 0 v → w ≡ v
spelled [] [] n h = refl
spelled [] (b ∷ v) n h = absurd (omega arith)
spelled (a ∷ w) [] n h = absurd (omega arith)
spelled (a ∷ w) (b ∷ v) n h = λ i. h.0 i ∷ spelled w v (omega arith) (later a w 0 v h.1) i

pub returns-in-premise : goal.returns-in-premise
returns-in-premise c =
    ap keyword_of (sym (spelled c.args.word.now (codes "premise") (omega arith) (omega arith, (omega arith, (omega arith, (omega arith, (omega arith, (omega arith, (omega arith, tt)))))))))

pub returns-in-align : goal.returns-in-align
returns-in-align c =
    ap keyword_of (sym (spelled c.args.word.now (codes "align") (omega arith) (omega arith, (omega arith, (omega arith, (omega arith, (omega arith, tt)))))))

pub returns-in-apart : goal.returns-in-apart
returns-in-apart c =
    ap keyword_of (sym (spelled c.args.word.now (codes "apart") (omega arith) (omega arith, (omega arith, (omega arith, (omega arith, (omega arith, tt)))))))
