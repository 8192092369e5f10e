-- Lines and texts against what they are read as.
use Rattle.std.proofs.Common.{◌≡◌, ℕ, ◌+◌, ◌<◌, ◌≤◌, ◌==◌, Bool, true, false, ltb, List, [], ◌∷◌, map, length, Some, None, Ok, Err, Option, Result, sym, refl, ap, ◌∙◌, subst, arith, le-ltb, lt-ltb, Bor}
use Rattle.std.specs.Iterator.{AlwaysYields}
use Rattle.std.specs.Iterator.Adapters.{enumerate_steps, enumerate_source}
use Rattle.std.specs.declared.iter.Enumerate.{Enumerate}
use Rattle.std.specs.declared.slice.Split.{Split}
use Rattle.std.specs.Fn.{CalledAt}
use Rattle.std.specs.Slice.Iter.{split_steps, split_rest, split_done, split_callee}
use Rattle.std.proofs.lemmas.Iterator.Splits.{YieldsList-from_slice_split}
use denote.Param.Members.{Mut}
use Rattle.std.specs.List.{All, AllByRecursion}
use Rattle.std.proofs.lemmas.List.Elements.{All-from_recursion, recursion_from_All}
use Rattle.words.specs.declared.Placed.{Placed}
use Rattle.words.specs.declared.ReadError.{ReadError as Unread}
use Rattle.words.specs.declared.ReadError.TheVariants as unread
use Rattle.words.specs.Spelling.{Stands}
use Rattle.words.specs.Words.{spot, words_of, Tells}
use Rattle.words.proofs.Spelling.{words_stand}
use Rattle.grammar.specs.Parse.{parse_line}
use Rattle.faults.specs.declared.Fault.{Fault}
use Rattle.faults.specs.declared.Found.{Found}
use Rattle.plan.specs.Items.{Items, nothing}
use Rattle.meaning.specs.Making.{line_makes}
use Rattle.meaning.specs.Checks.{first, line_fault}
use Rattle.sheet.specs.declared.line.Start.{Start}
use Rattle.sheet.specs.declared.reading.Stop.{Stop}
use Rattle.sheet.specs.declared.reading.Stop.TheVariants as stop
use Rattle.sheet.specs.declared.sheets.ReadError.{ReadError}
use Rattle.sheet.specs.declared.sheets.ReadError.TheVariants as failed
use Rattle.sheet.specs.declared.sheets.Trouble.{Trouble}
use Rattle.sheet.specs.declared.sheets.Trouble.TheVariants as trouble
use Rattle.sheet.specs.Progress.{Progress}
use Rattle.sheet.specs.Reads.{limit, spots, Ends}
use Rattle.sheet.specs.Forms.{Near, LineTells}
use Rattle.sheet.specs.Sheets.{checked, limited, parsed, worded, line_read, lines_read, lines_of, onward, longest, too_long, and_then, sheets_read}
use Rattle.sheet.specs.Answers.{unworded, stopped, fault_at, Ended, Fine, LineReads, TextReads, BothRead}
use Rattle.sheet.proofs.Standing.{LineAt, Follow, lines_follow}

-- the words of a line of at most 32768 bytes have columns as small
pub words-near : (line : List ℕ) (ws : List Placed) → length line ≤ 32768 → words_of line ≡ Ok (map spot ws) → Near ws
words-near line ws h e =
    let stand : All (Stands line) (map spot ws) = words_stand line (map spot ws) e in
    All-from_recursion (λ w. w.column ≤ 32768) ws (near_each ws (recursion_from_All (Stands line) (map spot ws) stand))
  where
    near_each : (ws : List Placed) → AllByRecursion (Stands line) (map spot ws) → AllByRecursion (λ w. w.column ≤ 32768) ws
    near_each [] e = tt
    near_each (w ∷ ws) e = (omega (arith, e.0.before_end), near_each ws e.1)

-- a reader's fault
pub unread_tells : (x : Unread) (s : Start) (p e : Progress) (bytes : List ℕ) → Tells (Err x) (words_of bytes) → LineReads (Err (unworded x)) s p bytes e
unfolding line_read
unread_tells unread.Memory s p e bytes tells = tt
unread_tells (unread.Fault f c) s p e bytes tells = ap (worded p.texts s.text s.offset (length bytes) p.items) tells

words-read : (s : Start) (p : Progress) (bytes : List ℕ) (ws : List Placed) → words_of bytes ≡ Ok (map spot ws) → line_read p.texts s.text s.offset p.items bytes ≡ parsed p.texts s.text s.offset (length bytes) p.items (parse_line limit (spots ws))
unfolding line_read
words-read s p bytes ws is = ap (worded p.texts s.text s.offset (length bytes) p.items) is

-- a grammar's fault
pub stop_read : (r : Stop) (s : Start) (p e : Progress) (bytes : List ℕ) (ws : List Placed) → words_of bytes ≡ Ok (map spot ws) → Ends r (parse_line limit (spots ws)) → LineReads (Err (stopped (length bytes) r)) s p bytes e
stop_read stop.Memory s p e bytes ws is ends = tt
stop_read (stop.Word c) s p e bytes ws is ends = words-read s p bytes ws is ∙ ap (parsed p.texts s.text s.offset (length bytes) p.items) ends
stop_read (stop.Deep c) s p e bytes ws is ends = words-read s p bytes ws is ∙ ap (parsed p.texts s.text s.offset (length bytes) p.items) ends
stop_read stop.Short s p e bytes ws is ends = words-read s p bytes ws is ∙ ap (parsed p.texts s.text s.offset (length bytes) p.items) ends

-- what was found and made agree with the line's own check
checks : (f : Option Found) (d e : Items) (r : Option Found) → r ≡ f → (f ≡ None → e ≡ d) → checked f d ≡ checked r e
checks (Some f) d e r is made = ap (λ x. checked x e) (sym is)
checks None d e r is made = ap limited (sym (made refl)) ∙ ap (λ x. checked x e) (sym is)

-- a line whose words are one
pub line_ended : (a : Result (Unit {0}) Trouble) (s : Start) (p e : Progress) (bytes : List ℕ) (ws : List Placed) (u : Unit {0}) → p.found ≡ None → words_of bytes ≡ Ok (map spot ws) → LineTells (Ok u) s p ws e → Ended a e → LineReads a s p bytes e
line_ended a s p e bytes ws u fresh is tells end =
    let l = tells.0 in
    let leaves = tells.1.1 in
    let fault = line_fault p.texts p.items l in
    let found : e.found ≡ fault = leaves.found ∙ ap (λ f. first f fault) fresh in
    let whole : line_read p.texts s.text s.offset p.items bytes ≡ checked e.found e.items
    = words-read s p bytes ws is ∙ ap (parsed p.texts s.text s.offset (length bytes) p.items) tells.1.0
    ∙ checks fault (line_makes p.texts s.text s.offset l p.items) e.items e.found found leaves.items in
    go a whole leaves.texts end
  where
    go : (a : Result (Unit {0}) Trouble) → line_read p.texts s.text s.offset p.items bytes ≡ checked e.found e.items → e.texts ≡ p.texts → Ended a e → LineReads a s p bytes e
    go (Ok v) whole same end = (whole ∙ end.0, record { texts = same; found = end.1 })
    go (Err trouble.Memory) whole same end = tt
    go (Err (trouble.Found f)) whole same end = whole ∙ end

-- ---- the lines of a text

module _ {S : Type 0} (gives : S → Option (ℕ × Bor (List ℕ)) → S → Type 0) where
  -- the lines that are still to come
  abbrev pub Comes : S → List (List ℕ) → Type 0
  Comes s ls = AlwaysYields gives (λ x. x.1.now) s ls

  -- the lines before the one at an offset are read
  pub record Upto (t : ℕ) (p : Progress) (text : List ℕ) (s : S) (i o : ℕ) (e : Progress) : Type 0 where
    pub rest : List (List ℕ)
    pub comes : Comes s rest
    pub fine : Fine p e
    pub small : i ≤ o
    pub follow : Follow text o rest
    pub reads : lines_read p.texts t 1 0 (lines_of text) p.items ≡ lines_read p.texts t (i + 1) o rest e.items

  -- the next line is the first of those to come
  pub record Next (t : ℕ) (p : Progress) (text : List ℕ) (s : S) (i o : ℕ) (e : Progress) (f : List ℕ) : Type 0 where
    pub others : List (List ℕ)
    pub comes : Comes s others
    pub line_at : LineAt text o f
    pub follow : Follow text (o + length f + 1) others
    pub reads : lines_read p.texts t 1 0 (lines_of text) p.items ≡ onward t (i + 1) (line_read e.texts t o e.items f) (λ d. lines_read p.texts t (i + 1 + 1) (o + length f + 1) others d)

  pub upto_next : {t : ℕ} {p : Progress} {text : List ℕ} {s : S} {i o : ℕ} {e : Progress} → Upto t p text s i o e → (n : ℕ) (b : Bor (List ℕ)) (u : S) → gives s (Some (n, b)) u → Next t p text u i o e b.now
  unfolding lines_read
  upto_next {t} {p} {text} {s} {i} {o} {e} h n b u step = go h.rest h.comes h.follow h.reads
    where
      go : (ls : List (List ℕ)) → Comes s ls → Follow text o ls → lines_read p.texts t 1 0 (lines_of text) p.items ≡ lines_read p.texts t (i + 1) o ls e.items → Next t p text u i o e b.now
      go [] comes follow reads = absurd (comes (n, b) u step)
      go (l ∷ ls) comes follow reads =
          let next = comes.1 (n, b) u step in
          let same = sym next.0 in
          record {
            others = ls;
            comes = next.1;
            line_at = subst (LineAt text o) same follow.0;
            follow = subst (λ f. Follow text (o + length f + 1) ls) same follow.1;
            reads = reads ∙ (λ k. onward t (i + 1) (line_read (sym h.fine.texts k) t o e.items (same k)) (λ d. lines_read p.texts t (i + 1 + 1) (o + length (same k) + 1) ls d));
          }

  module _ {t : ℕ} {p : Progress} {text : List ℕ} {u : S} {i o : ℕ} {e : Progress} {f : List ℕ} (n : Next t p text u i o e f) where
    abbrev start : Start
    start = record { text = t; offset = o }

    pub upto_more : (v : Unit {0}) (r : Progress) (j : ℕ) → j ≡ i + 1 → i ≤ o → Fine p e → LineReads (Ok v) start e f r → Upto t p text u j (o + (length f + 1)) r
    upto_more v r j later small fine line =
        let next : o + length f + 1 ≡ o + (length f + 1) = omega arith in
        record {
          rest = n.others;
          comes = n.comes;
          fine = record { texts = line.1.texts ∙ fine.texts; found = line.1.found };
          small = omega arith;
          follow = subst (λ k. Follow text k n.others) next n.follow;
          reads = n.reads ∙ ap (λ x. onward t (i + 1) x (λ d. lines_read p.texts t (i + 1 + 1) (o + length f + 1) n.others d)) line.0
              ∙ (λ k. lines_read p.texts t (sym later k + 1) (next k) n.others r.items);
        }

    pub upto_stop : (x : Trouble) (r : Progress) (j : ℕ) → j ≡ i → LineReads (Err x) start e f r → TextReads (Err (fault_at t (j + 1) x)) t p text r
    upto_stop trouble.Memory r j same line = tt
    upto_stop (trouble.Found g) r j same line =
        n.reads ∙ ap (λ x. onward t (i + 1) x (λ d. lines_read p.texts t (i + 1 + 1) (o + length f + 1) n.others d)) line
        ∙ ap (λ k. Err (record { problem = g.problem; text = t; line = k + 1; column = g.column })) (sym same)

  pub upto_none : (t : ℕ) (p : Progress) (text : List ℕ) (s : S) (i : ℕ) → Comes s (lines_of text) → i ≡ 0 → p.found ≡ None → Upto t p text s i 0 p
  upto_none t p text s i comes first fresh =
      record {
        rest = lines_of text;
        comes = comes;
        fine = record { texts = refl; found = fresh };
        small = omega arith;
        follow = lines_follow text;
        reads = ap (λ k. lines_read p.texts t (k + 1) 0 (lines_of text) p.items) (sym first);
      }

  pub upto_all : {t : ℕ} {p : Progress} {text : List ℕ} {s : S} {i o : ℕ} {e : Progress} (v : Unit {0}) (u : S) → Upto t p text s i o e → gives s None u → TextReads (Ok v) t p text e
  unfolding lines_read
  upto_all {t} {p} {text} {s} {i} {o} {e} v u h step = go h.rest h.comes h.reads
    where
      go : (ls : List (List ℕ)) → Comes s ls → lines_read p.texts t 1 0 (lines_of text) p.items ≡ lines_read p.texts t (i + 1) o ls e.items → TextReads (Ok v) t p text e
      go [] comes reads = (reads, h.fine)
      go (l ∷ ls) comes reads = absurd (comes.0 u step)

-- numbered items come as the items do
pub numbered : {S A B : Type 0} (steps : S → Option A → S → Type 0) (v : A → B) (ys : List B) (s : Enumerate S) → AlwaysYields steps v (enumerate_source s) ys → AlwaysYields (enumerate_steps steps) (λ x. v x.1) s ys
numbered steps v [] s h = λ x j k. h x.1 (enumerate_source j) k.0
numbered steps v (y ∷ ys) s h = (
  λ j k. h.0 (enumerate_source j) k.0,
  λ x j k. let m = h.1 x.1 (enumerate_source j) k.0 in (m.0, numbered steps v ys j m.1),
)

-- a text that is cut at each byte 10 gives its lines
pub lines_come : {F : Type 0} (g : Mut F (Bor ℕ × Unit {0}) Bool) {f : F} (text : List ℕ) (s : Split ℕ F) (e : Enumerate (Split ℕ F)) → split_rest s ≡ text → split_done s ≡ false → split_callee s ≡ f → enumerate_source e ≡ s → ((x : ℕ) (b : Bool) (q : F) → CalledAt g f x b q → (q ≡ f) × (b ≡ (x == 10))) → Comes (enumerate_steps (split_steps g)) e (lines_of text)
lines_come g text s e rest done closure source tests =
    let parts = YieldsList-from_slice_split g (λ b. b == 10) text rest done closure tests in
    numbered (split_steps g) (λ x. x.now) (lines_of text) e (subst (λ z. AlwaysYields (split_steps g) (λ x. x.now) z (lines_of text)) (sym source) parts.runs)

-- ---- two texts

pub chip_long : (chip project : List ℕ) → longest < length chip → sheets_read chip project ≡ Err (too_long 0)
unfolding sheets_read
chip_long chip project h = let t : ltb longest (length chip) ≡ true = lt-ltb longest (length chip) h in rw t refl

pub project_long : (chip project : List ℕ) → length chip ≤ longest → longest < length project → sheets_read chip project ≡ Err (too_long 1)
unfolding sheets_read
project_long chip project g h =
    let s : ltb longest (length chip) ≡ false = le-ltb longest (length chip) g in
    let t : ltb longest (length project) ≡ true = lt-ltb longest (length project) h in
    rw (s, t) refl

module _ (chip project : List ℕ) (g : length chip ≤ longest) (h : length project ≤ longest) where
  both : sheets_read chip project ≡ and_then (lines_read (chip ∷ project ∷ []) 0 1 0 (lines_of chip) nothing) (λ d. lines_read (chip ∷ project ∷ []) 1 1 0 (lines_of project) d)
  unfolding sheets_read
  both =
      let s : ltb longest (length chip) ≡ false = le-ltb longest (length chip) g in
      let t : ltb longest (length project) ≡ false = le-ltb longest (length project) h in
      rw (s, t) refl

  module _ (p : Progress) (texts : p.texts ≡ chip ∷ project ∷ []) (items : p.items ≡ nothing) where
    chip_read : {x : Result Items Fault} → lines_read p.texts 0 1 0 (lines_of chip) p.items ≡ x → sheets_read chip project ≡ and_then x (λ d. lines_read (chip ∷ project ∷ []) 1 1 0 (lines_of project) d)
    chip_read is = both ∙ ap (λ y. and_then y (λ d. lines_read (chip ∷ project ∷ []) 1 1 0 (lines_of project) d)) ((λ i. lines_read (sym texts i) 0 1 0 (lines_of chip) (sym items i)) ∙ is)

    pub chip_stops : (x : ReadError) (e : Progress) → TextReads (Err x) 0 p chip e → BothRead (Err x) (sheets_read chip project)
    chip_stops failed.Memory e t = tt
    chip_stops (failed.Fault f) e t = chip_read t

    module _ {v : Unit {0}} {m : Progress} (done : TextReads (Ok v) 0 p chip m) where
      project_read : {x : Result Items Fault} → lines_read m.texts 1 1 0 (lines_of project) m.items ≡ x → sheets_read chip project ≡ x
      project_read is = chip_read done.0 ∙ ap (λ ts. lines_read ts 1 1 0 (lines_of project) m.items) (sym (done.1.texts ∙ texts)) ∙ is

      pub project_stops : (x : ReadError) (e : Progress) → TextReads (Err x) 1 m project e → BothRead (Err x) (sheets_read chip project)
      project_stops failed.Memory e t = tt
      project_stops (failed.Fault f) e t = project_read t

      pub both_read : {w : Unit {0}} (e : Progress) → TextReads (Ok w) 1 m project e → sheets_read chip project ≡ Ok e.items
      both_read e t = project_read t.0
