-- What a refusal says of the words.
use Rattle.std.proofs.Common.{◌≡◌, ℕ, ◌+◌, ◌≤◌, max, List, [], ◌∷◌, ◌++◌, Some, None, sym, refl, ap, ◌∙◌, subst, append_assoc, append-nil, arith}
use native.Mathlib.Nat.{le-max_left, le-max_right}
use Rattle.words.specs.declared.Symbol.TheVariants.{Open}
use Rattle.words.specs.Words.{symbol, Spot}
use Rattle.grammar.specs.Tree.{at, deep_line}
use Rattle.grammar.specs.Parse.{whole, name_next, number_next, to_next, State, body, head, rest, need, have, Refusal, wrong, deeper, short, refused, Step, on, off, step, ending, went, parse, parse_line}
use Rattle.grammar.specs.Reading.{Shallow, WrongWords, ShortLines, DeepWords, open_of, close_of, opens, closes}
use Rattle.grammar.proofs.ReadBack.{complete}
use Rattle.grammar.proofs.Steps.{Led, depth, Low, low_depth, Fact, fact}
use Rattle.grammar.proofs.Sound.{not-read}
use Rattle.grammar.proofs.Completions.{viable}

-- two refusals that are one have one reason
same_refusal : (r q : Refusal) → refused r ≡ refused q → r ≡ q
same_refusal r q e = cc

same_wrong : (k c : ℕ) → wrong k ≡ wrong c → k ≡ c
same_wrong k c e = cc

same_deeper : (k c : ℕ) → deeper k ≡ deeper c → k ≡ c
same_deeper k c e = cc

wrong-deeper : {k c : ℕ} → wrong k ≡ deeper c → ⊥
wrong-deeper e = cc

wrong-short : {k : ℕ} → wrong k ≡ short → ⊥
wrong-short e = cc

deeper-short : {k : ℕ} → deeper k ≡ short → ⊥
deeper-short e = cc

-- where words end, they are too few or a line
end_refused : (st : State) (r : Refusal) → ending st ≡ refused r → short ≡ r
end_refused (body None) r e = absurd (not-read (sym e))
end_refused (body (Some o)) r e = same_refusal short r e
end_refused (head o n) r e = same_refusal short r e
end_refused (rest (whole l)) r e = absurd (not-read (sym e))
end_refused (rest (name_next f)) r e = same_refusal short r e
end_refused (rest (number_next f)) r e = same_refusal short r e
end_refused (rest (to_next f)) r e = same_refusal short r e
end_refused (need o s p σ) r e = same_refusal short r e
end_refused (have o None x σ) r e = same_refusal short r e
end_refused (have o (Some k) x []) r e = absurd (not-read (sym e))
end_refused (have o (Some k) x (q ∷ σ)) r e = same_refusal short r e

same_first : (x y : Spot) (xs ys : List Spot) → x ∷ xs ≡ y ∷ ys → x ≡ y
same_first x y xs ys e = cc

same_rest : (x y : Spot) (xs ys : List Spot) → x ∷ xs ≡ y ∷ ys → xs ≡ ys
same_rest x y xs ys e = cc

no_words : (x : Spot) (xs : List Spot) → [] ≡ x ∷ xs → ⊥
no_words x xs e = cc

-- no front of some words, read from a state on, has more than m parentheses open
abbrev Shallows : ℕ → State → List Spot → Type 0
Shallows m st ws = (front more : List Spot) → ws ≡ front ++ more → opens front + depth st ≤ closes front + m

shallow_none : (m : ℕ) (st : State) → Low m st → Shallows m st []
shallow_none m st low [] more e = omega (arith, low_depth m st low)
shallow_none m st low (x ∷ front) more e = absurd (no_words x (front ++ more) e)

shallow_more : (m : ℕ) (st st' : State) (w : Spot) (ws : List Spot) → Low m st → open_of w.word + depth st ≡ close_of w.word + depth st' → Shallows m st' ws → Shallows m st (w ∷ ws)
shallow_more m st st' w ws low n ih [] more e = omega (arith, low_depth m st low)
shallow_more m st st' w ws low n ih (x ∷ front) more e =
    let f = ih front more (same_rest w x ws (front ++ more) e) in
    subst (λ y. open_of y.word + opens front + depth st ≤ close_of y.word + closes front + m) (same_first w x ws (front ++ more) e) (omega (arith, n, f))

shallow_line : (m : ℕ) (ws : List Spot) → Shallows m (body None) ws → Shallow m ws
shallow_line m ws h front more e = omega (arith, h front more e)

-- the words before a wrong one, and the refusal whatever comes after it and however deep lines may be
record Cut (m : ℕ) (st : State) (us ws : List Spot) (c : ℕ) : Type 0 where
  pre : List Spot
  word : Spot
  post : List Spot
  parts : ws ≡ pre ++ (word ∷ post)
  column_is : word.column ≡ c
  state : State
  reached : Led state (us ++ pre)
  shallow : Shallows m st pre
  again : (lim : ℕ) (more : List Spot) → m ≤ lim → parse lim st (pre ++ (word ∷ more)) ≡ refused (wrong c)

cut : (m : ℕ) (ws : List Spot) (st : State) (us : List Spot) (c : ℕ) → Led st us → Low m st → parse m st ws ≡ refused (wrong c) → Cut m st us ws c
cut m [] st us c h low e = absurd (wrong-short (sym (end_refused st (wrong c) e)))
cut m (w ∷ ws) st us c h low e = go (step m st w) (fact m st w) (λ st' vs h' low' e'. cut m ws st' vs c h' low' e') e
  where
    go : (k : Step) → Fact m st w k → ((st' : State) (vs : List Spot) → Led st' vs → Low m st' → parse m st' ws ≡ refused (wrong c) → Cut m st' vs ws c) → went k (λ st. parse m st ws) ≡ refused (wrong c) → Cut m st us (w ∷ ws) c
    go (on st') f ih e =
        let q = ih st' (us ++ w ∷ []) (f.follows us h) (f.low low) e in
        record {
          pre = w ∷ q.pre;
          word = q.word;
          post = q.post;
          parts = ap (λ l. w ∷ l) q.parts;
          column_is = q.column_is;
          state = q.state;
          reached = subst (Led q.state) (append_assoc us (w ∷ []) q.pre) q.reached;
          shallow = shallow_more m st st' w q.pre low f.counts q.shallow;
          again = λ lim more le. ap (λ k. went k (λ st. parse lim st (q.pre ++ (q.word ∷ more)))) (f.stays lim le) ∙ q.again lim more le;
        }
    go (off (wrong k)) f ih e =
        let is = same_wrong k c (same_refusal (wrong k) (wrong c) e) in
        record {
          pre = [];
          word = w;
          post = ws;
          parts = refl;
          column_is = f.here ∙ is;
          state = st;
          reached = subst (Led st) (sym (append-nil us)) h;
          shallow = shallow_none m st low;
          again = λ lim more le. ap (λ k. went k (λ st. parse lim st more)) (f.stays lim le) ∙ e;
        }
    go (off (deeper k)) f ih e = absurd (wrong-deeper (sym (same_refusal (deeper k) (wrong c) e)))
    go (off short) f ih e = absurd f

pub wrong-words : WrongWords
wrong-words m ws c e =
    let q = cut m ws (body None) [] c refl tt e in
    record {
      pre = q.pre;
      word = q.word;
      post = q.post;
      whole = q.parts;
      column_is = q.column_is;
      viable = viable q.state q.pre q.reached;
      shallow = shallow_line m q.pre q.shallow;
      stuck = λ v.
          let l = v.1.0 in
          let lim = max m (deep_line l) in
          not-read (sym (q.again lim v.0 (le-max_left m (deep_line l))) ∙ ap (parse_line lim) (sym (append_assoc q.pre (q.word ∷ []) v.0) ∙ sym v.1.1) ∙ complete lim l (le-max_right m (deep_line l)));
    }

-- the state where words end too early, and the refusal however deep lines may be
record Stop (m : ℕ) (st : State) (us ws : List Spot) : Type 0 where
  state : State
  reached : Led state (us ++ ws)
  shallow : Shallows m st ws
  again : (lim : ℕ) → m ≤ lim → parse lim st ws ≡ refused short

stops : (m : ℕ) (ws : List Spot) (st : State) (us : List Spot) → Led st us → Low m st → parse m st ws ≡ refused short → Stop m st us ws
stops m [] st us h low e = record { state = st; reached = subst (Led st) (sym (append-nil us)) h; shallow = shallow_none m st low; again = λ lim le. e }
stops m (w ∷ ws) st us h low e = go (step m st w) (fact m st w) (λ st' vs h' low' e'. stops m ws st' vs h' low' e') e
  where
    go : (k : Step) → Fact m st w k → ((st' : State) (vs : List Spot) → Led st' vs → Low m st' → parse m st' ws ≡ refused short → Stop m st' vs ws) → went k (λ st. parse m st ws) ≡ refused short → Stop m st us (w ∷ ws)
    go (on st') f ih e =
        let q = ih st' (us ++ w ∷ []) (f.follows us h) (f.low low) e in
        record {
          state = q.state;
          reached = subst (Led q.state) (append_assoc us (w ∷ []) ws) q.reached;
          shallow = shallow_more m st st' w ws low f.counts q.shallow;
          again = λ lim le. ap (λ k. went k (λ st. parse lim st ws)) (f.stays lim le) ∙ q.again lim le;
        }
    go (off (wrong k)) f ih e = absurd (wrong-short (same_refusal (wrong k) short e))
    go (off (deeper k)) f ih e = absurd (deeper-short (same_refusal (deeper k) short e))
    go (off short) f ih e = absurd f

pub short_lines : ShortLines
short_lines m ws e =
    let q = stops m ws (body None) [] refl tt e in
    record {
      viable = viable q.state ws q.reached;
      shallow = shallow_line m ws q.shallow;
      unfinished = λ v.
          let lim = max m (deep_line v.0) in
          not-read (sym (q.again lim (le-max_left m (deep_line v.0))) ∙ ap (parse_line lim) (sym v.1) ∙ complete lim v.0 (le-max_right m (deep_line v.0)));
    }

-- the words before a parenthesis too deep: as many are open as may be, and no front of them has more open
record Dig (m : ℕ) (st : State) (us ws : List Spot) (c : ℕ) : Type 0 where
  pre : List Spot
  post : List Spot
  parts : ws ≡ pre ++ (at c (symbol Open) ∷ post)
  past : State
  reached : Led past (us ++ (pre ++ (at c (symbol Open) ∷ [])))
  full : opens pre + depth st ≡ closes pre + m
  shallow : Shallows m st pre

digs : (m : ℕ) (ws : List Spot) (st : State) (us : List Spot) (c : ℕ) → Led st us → Low m st → parse m st ws ≡ refused (deeper c) → Dig m st us ws c
digs m [] st us c h low e = absurd (deeper-short (sym (end_refused st (deeper c) e)))
digs m (w ∷ ws) st us c h low e = go (step m st w) (fact m st w) (λ st' vs h' low' e'. digs m ws st' vs c h' low' e') e
  where
    go : (k : Step) → Fact m st w k → ((st' : State) (vs : List Spot) → Led st' vs → Low m st' → parse m st' ws ≡ refused (deeper c) → Dig m st' vs ws c) → went k (λ st. parse m st ws) ≡ refused (deeper c) → Dig m st us (w ∷ ws) c
    go (on st') f ih e =
        let q = ih st' (us ++ w ∷ []) (f.follows us h) (f.low low) e in
        record {
          pre = w ∷ q.pre;
          post = q.post;
          parts = ap (λ l. w ∷ l) q.parts;
          past = q.past;
          reached = subst (Led q.past) (append_assoc us (w ∷ []) (q.pre ++ (at c (symbol Open) ∷ []))) q.reached;
          full = omega (arith, f.counts, q.full);
          shallow = shallow_more m st st' w q.pre low f.counts q.shallow;
        }
    go (off (wrong k)) f ih e = absurd (wrong-deeper (same_refusal (wrong k) (deeper c) e))
    go (off (deeper k)) f ih e =
        let is : w ≡ at c (symbol Open) = f.here ∙ ap (λ n. at n (symbol Open)) (same_deeper k c (same_refusal (deeper k) (deeper c) e)) in
        record {
          pre = [];
          post = ws;
          parts = ap (λ x. x ∷ ws) is;
          past = f.past;
          reached = subst (λ x. Led f.past (us ++ x ∷ [])) is (f.follows us h);
          full = omega (arith, low_depth m st low, f.full);
          shallow = shallow_none m st low;
        }
    go (off short) f ih e = absurd f

pub deep-words : DeepWords
deep-words m ws c e =
    let q = digs m ws (body None) [] c refl tt e in
    record {
      pre = q.pre;
      post = q.post;
      whole = q.parts;
      viable = viable q.past (q.pre ++ (at c (symbol Open) ∷ [])) q.reached;
      full = omega (arith, q.full);
      shallow = shallow_line m q.pre q.shallow;
    }
