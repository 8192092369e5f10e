-- One step of the expression readers against the reading of the whole line.
use Rattle.std.proofs.Common.{◌≡◌, ℕ, ◌+◌, ◌-◌, ◌<◌, ◌≤◌, true, ltb, List, [], ◌∷◌, length, get_or, take, drop, Some, None, Ok, Option, sym, ap, ◌∙◌, subst, rules, arith, lt-ltb}
use Rattle.std.proofs.lemmas.List.{take_all}
use Rattle.words.specs.declared.Symbol.{Symbol}
use Rattle.words.specs.declared.Symbol.TheVariants.{Plus, Open, Close}
use Rattle.words.specs.declared.Placed.{Placed}
use Rattle.words.specs.Words.{Word, name, number, symbol, meant}
use Rattle.grammar.specs.Tree.{Expr, one, plus, Term, named, counted, group, Owner, at}
use Rattle.grammar.specs.Parse.{Pending, Side, Stack, need, have, Outcome, parse}
use Rattle.plan.specs.Names.{Texts}
use Rattle.meaning.specs.Making.{makes_number, makes_sum, cell_named, makes, makes_term}
use Rattle.meaning.specs.Checks.{first, expr_fault, term_fault}
use Rattle.sheet.specs.declared.reading.Stop.{Stop}
use Rattle.sheet.specs.Growing.{grows, grows_term, after_name}
use Rattle.sheet.specs.Progress.{Progress, Added}
use Rattle.sheet.specs.Next.{Passes}
use Rattle.sheet.specs.Reads.{limit, spots, Ends, Halts, ReadsTerm, ReadsExpr}
use Rattle.sheet.proofs.Same.{first_assoc, first_none, same_expr, term_fault_same}

pub says : (r : Stop) {a b : Outcome} → a ≡ b → Ends r b → Ends r a
says r e h = subst (Ends r) (sym e) h

-- the first of some words, and those after it
pub first-is : (ws : List Placed) (none : Placed) (w : Word) → 1 ≤ length ws → meant (get_or ws 0 none).token ≡ w → spots ws ≡ at (get_or ws 0 none).column w ∷ spots (take (length ws - 1) (drop 1 ws))
first-is [] none w h is = absurd (omega arith)
first-is (v ∷ vs) none w h is =
    let rest : take (length (v ∷ vs) - 1) vs ≡ vs = take_all (length (v ∷ vs) - 1) vs (omega arith) in
    λ i. at v.column (is i) ∷ spots (sym rest i)

-- the first two, likewise
pub first-two : (ws : List Placed) (none : Placed) (w v : Word) → 2 ≤ length ws → meant (get_or ws 0 none).token ≡ w → meant (get_or ws 1 none).token ≡ v → spots ws ≡ at (get_or ws 0 none).column w ∷ at (get_or ws 1 none).column v ∷ spots (take (length ws - 2) (drop 2 ws))
first-two [] none w v h is it = absurd (omega arith)
first-two (x ∷ []) none w v h is it = absurd (omega arith)
first-two (x ∷ y ∷ ys) none w v h is it =
    let rest : take (length (x ∷ y ∷ ys) - 2) ys ≡ ys = take_all (length (x ∷ y ∷ ys) - 2) ys (omega arith) in
    λ i. at x.column (is i) ∷ at y.column (it i) ∷ spots (sym rest i)

pub rest-shorter : (ws : List Placed) → 1 ≤ length ws → length (take (length ws - 1) (drop 1 ws)) < length ws
rest-shorter ws h = search rules

-- the words that a symbol begins
pub passed : {s : Symbol} {ws vs : List Placed} (x : Passes s ws vs) → spots ws ≡ at x.word.column (symbol s) ∷ spots vs
passed {s} {ws} {vs} x = ap spots x.stands ∙ ap (λ w. at x.word.column w ∷ spots vs) x.is

pub shorter : {s : Symbol} {ws vs : List Placed} → Passes s ws vs → length vs < length ws
shorter x = omega (arith, ap length x.stands)

-- ---- terms

pub name_read : (depth : ℕ) (p : Progress) (ws : List Placed) (c : ℕ) (e : Progress) (vs : List Placed) (k : ℕ) (b : List ℕ) → spots ws ≡ at k (name b) ∷ spots vs → c ≡ cell_named p.texts p.items b → e ≡ after_name (record { column = k; bytes = b }) p → ReadsTerm depth p ws c e vs
name_read depth p ws c e vs k b is cell after =
    record { tree = named (record { column = k; bytes = b }); goes = λ o s w σ _. ap (parse limit (need o s w σ)) is; cell_is = cell; then_is = after }

pub number_read : (depth : ℕ) (p : Progress) (ws : List Placed) (c : ℕ) (e : Progress) (vs : List Placed) (k n : ℕ) → spots ws ≡ at k (number n) ∷ spots vs → Added (Ok c) (makes_number None n p.items) p e → ReadsTerm depth p ws c e vs
number_read depth p ws c e vs k n is added =
    record {
      tree = counted (record { column = k; value = n });
      goes = λ o s w σ _. ap (parse limit (need o s w σ)) is;
      cell_is = added.0;
      then_is = added.1 ∙ ap (λ f. record { texts = p.texts; items = (makes_number None n p.items).then; found = f }) (sym (first_none p.found));
    }

pub grouped : {depth : ℕ} {p : Progress} {ws : List Placed} {c : ℕ} {e : Progress} {vs us xs : List Placed} (k : ℕ) → spots ws ≡ at k (symbol Open) ∷ spots vs → depth < 16 → ReadsExpr (depth + 1) p vs c e us → Passes Close us xs → ReadsTerm depth p ws c e xs
grouped {depth} {p} {ws} {c} {e} {vs} {us} {xs} k is small t shut =
    record {
      tree = group k t.tree shut.word.column;
      goes = λ o s w σ len.
          let room : ltb (length σ) 16 ≡ true = lt-ltb (length σ) 16 (omega arith) in
          ap (parse limit (need o s w σ)) is ∙ rw room (t.goes o s ((w, k) ∷ σ) (omega arith) ∙ ap (parse limit (have o s t.tree ((w, k) ∷ σ))) (passed shut));
      cell_is = t.cell_is;
      then_is = t.then_is;
    }

-- ---- expressions

pub one_term : {depth : ℕ} {p : Progress} {ws : List Placed} {c : ℕ} {e : Progress} {vs : List Placed} → ReadsTerm depth p ws c e vs → ReadsExpr depth p ws c e vs
one_term t = record { tree = one t.tree; goes = λ o s σ len. t.goes o s None σ len; cell_is = t.cell_is; then_is = t.then_is }

-- a `+` and a term after an expression
grows-plus : (ts : Texts) (x : Expr) (c : ℕ) (t : Term) (b : Progress) → first (first b.found (expr_fault ts b.items x)) (term_fault ts (makes ts None x b.items).then t) ≡ first b.found (expr_fault ts b.items (plus x c t))
grows-plus ts x c t b =
    first_assoc b.found (expr_fault ts b.items x) (term_fault ts (makes ts None x b.items).then t)
    ∙ ap (λ f. first b.found (first (expr_fault ts b.items x) f)) (term_fault_same ts t b.items (makes ts None x b.items).then (same_expr ts None x b.items))

module _ {depth : ℕ} {p : Progress} {ws : List Placed} {c : ℕ} {d : Progress} {vs us : List Placed} (x : ReadsExpr depth p ws c d vs) (sign : Passes Plus vs us) where
  goes_on : (o : Option Owner) (s : Side) (σ : Stack) → length σ ≡ depth → parse limit (need o s None σ) (spots ws) ≡ parse limit (need o s (Some (x.tree, sign.word.column)) σ) (spots us)
  goes_on o s σ len = x.goes o s σ len ∙ ap (parse limit (have o s x.tree σ)) (passed sign)

  pub sum_halts : {r : Stop} → ((w : Pending) → Halts depth w us r) → Halts depth None ws r
  sum_halts {r} t = record { ends = λ o s σ len. says r (goes_on o s σ len) ((t (Some (x.tree, sign.word.column))).ends o s σ len) }

  pub summed : {r n : ℕ} {e u : Progress} {xs : List Placed} → ReadsTerm depth d us r e xs → Added (Ok n) (makes_sum None c r e.items) e u → ReadsExpr depth p ws n u xs
  summed {r} {n} {e} {u} {xs} t added =
      let k = sign.word.column in
      let rD : r ≡ (makes_term p.texts None t.tree (makes p.texts None x.tree p.items).then).cell = t.cell_is ∙ ap (λ q. (grows_term t.tree q).cell) x.then_is in
      let eD : e ≡ (grows_term t.tree (grows x.tree p).then).then = t.then_is ∙ ap (λ q. (grows_term t.tree q).then) x.then_is in
      let fD : e.found ≡ first p.found (expr_fault p.texts p.items (plus x.tree k t.tree)) = ap (λ q. q.found) eD ∙ grows-plus p.texts x.tree k t.tree p in
      record {
        tree = plus x.tree k t.tree;
        goes = λ o s σ len. goes_on o s σ len ∙ t.goes o s (Some (x.tree, k)) σ len;
        cell_is = added.0 ∙ (λ i. (makes_sum None (x.cell_is i) (rD i) (eD i).items).cell);
        then_is = added.1 ∙ (λ i. record { texts = (eD i).texts; items = (makes_sum None (x.cell_is i) (rD i) (eD i).items).then; found = fD i });
      }
