-- A line has the words that it is laid out as, or the fault that stands after them.
use Rattle.std.proofs.Common.{◌≡◌, ℕ, zero, suc, ◌+◌, ◌-◌, ◌<◌, ◌≤◌, true, List, [], ◌∷◌, ◌++◌, length, drop, Ok, Err, Result, sym, refl, ap, ◌∙◌, subst, arith}
use lib.Seq.{drop-append_seam}
use Rattle.words.specs.declared.Slip.{Slip}
use Rattle.words.specs.Class.{between, class_of}
use Rattle.words.specs.Words.{Start, gap, word, bad, Word, Spot, before, words_from, onward, front_of}
use Rattle.words.specs.Laid.{Written, Ended, Laid, Faulty, ExactWords, ExactFaults}
use Rattle.words.specs.Laid as lay
use Rattle.words.proofs.Opens.{Opens, opens}
use Rattle.words.proofs.Scan.{Inside, inside, after, after_ok, after_err}
use Rattle.words.proofs.Written.{fault_front, reads_fault, reads-laid}

-- from a column on, bytes are laid out as what they are read as
record LaidFault (c : ℕ) (s : List ℕ) (f : Slip) (d : ℕ) : Type 0 where
  before : List Spot
  at : ℕ
  bytes : List ℕ
  on : ℕ
  laid : Laid c s before at bytes
  faulty : Faulty bytes f on
  column_is : at + on ≡ d

abbrev LaidOut : ℕ → List ℕ → Result (List Spot) (Slip × ℕ) → Type 0
LaidOut c s (Ok ws) = (d : ℕ) × Laid c s ws d []
LaidOut c s (Err e) = LaidFault c s e.0 e.1

spaced : (c b : ℕ) (s : List ℕ) → between 3 4 (class_of b) ≡ true → (r : Result (List Spot) (Slip × ℕ)) → LaidOut (c + 1) s r → LaidOut c (b ∷ s) r
spaced c b s e (Ok ws) h = (h.0, lay.space c b s ws h.0 [] e h.1)
spaced c b s e (Err f) h =
    record { before = h.before; at = h.at; bytes = h.bytes; on = h.on; laid = lay.space c b s h.before h.at h.bytes e h.laid; faulty = h.faulty; column_is = h.column_is }

worded : (c : ℕ) (w : Word) (bytes s : List ℕ) → Written w bytes → Ended w s → (r : Result (List Spot) (Slip × ℕ)) → LaidOut (c + length bytes) s r → LaidOut c (bytes ++ s) (before (record { column = c; word = w }) r)
worded c w bytes s written ended (Ok ws) h = (h.0, lay.word c w bytes s ws h.0 [] written ended h.1)
worded c w bytes s written ended (Err f) h =
    record {
      before = record { column = c; word = w } ∷ h.before;
      at = h.at;
      bytes = h.bytes;
      on = h.on;
      laid = lay.word c w bytes s h.before h.at h.bytes written ended h.laid;
      faulty = h.faulty;
      column_is = h.column_is;
    }

laid_out : (s : List ℕ) (k c : ℕ) → k ≤ length s → LaidOut (c + k) (drop k s) (words_from k c s)
laid_out [] zero c le = (c + 0, lay.end (c + 0) [])
laid_out [] (suc k) c le = absurd (omega arith)
laid_out (b ∷ s) (suc k) c le =
    subst (λ n. LaidOut n (drop k s) (words_from k (c + 1) s)) (omega arith) (laid_out s k (c + 1) (omega arith))
laid_out (b ∷ s) zero c le =
    subst (λ n. LaidOut n (b ∷ s) (words_from 0 c (b ∷ s))) (omega arith) (go (front_of (b ∷ s)) (opens b s) (inside b s) (λ k h. laid_out s k (c + 1) h))
  where
    go : (t : Start) → Opens t (b ∷ s) → Inside t (length (b ∷ s)) → ((k : ℕ) → k ≤ length s → LaidOut (c + 1 + k) (drop k s) (words_from k (c + 1) s)) → LaidOut c (b ∷ s) (onward c t (λ skip. words_from skip (c + 1) s))
    go gap o i ih = spaced c b s o (words_from 0 (c + 1) s) (subst (λ n. LaidOut n s (words_from 0 (c + 1) s)) (omega arith) (ih 0 (omega arith)))
    go (word n w) o i ih =
        let k : c + 1 + (n - 1) ≡ c + length o.bytes = omega (arith, i.0, o.size) in
        let far : drop (n - 1) s ≡ o.more = left n i.0 ∙ ap (λ m. drop m (b ∷ s)) o.size ∙ ap (drop (length o.bytes)) (sym o.splits) ∙ drop-append_seam o.bytes o.more in
        subst (λ l. LaidOut c l (before (record { column = c; word = w }) (words_from (n - 1) (c + 1) s))) o.splits
        (worded c w o.bytes o.more o.written o.ended (words_from (n - 1) (c + 1) s)
        (subst (λ l. LaidOut (c + length o.bytes) l (words_from (n - 1) (c + 1) s)) far
        (subst (λ m. LaidOut m (drop (n - 1) s) (words_from (n - 1) (c + 1) s)) k (ih (n - 1) (omega (arith, i.0, i.1))))))
      where
        left : (n : ℕ) → 0 < n → drop (n - 1) s ≡ drop n (b ∷ s)
        left zero h = absurd (omega arith)
        left (suc n) h = let z : suc n - 1 ≡ n = omega arith in rw z refl
    go (bad n f) o i ih = record { before = []; at = c; bytes = b ∷ s; on = n; laid = lay.end c (b ∷ s); faulty = o; column_is = refl }

pub exact_words : ExactWords
exact_words line ws = (
  λ e. let h = subst (LaidOut 1 line) e (laid_out line 0 1 (omega arith)) in record { past = h.0; laid = h.1 },
  λ h. reads-laid h.laid ∙ after_ok ws,
)

pub exact_faults : ExactFaults
exact_faults line f c = (
  λ e.
      let h = subst (LaidOut 1 line) e (laid_out line 0 1 (omega arith)) in
      record { before = h.before; at = h.at; bytes = h.bytes; on = h.on; laid = h.laid; faulty = h.faulty; column_is = h.column_is },
  λ h.
      reads-laid h.laid ∙ ap (after h.before) (reads_fault h.at h.bytes f h.on (fault_front h.faulty)) ∙ after_err h.before _ ∙ ap (λ n. Err (f, n)) h.column_is,
)
