-- Over every history, what each answer claims holds.
use Rattle.std.proofs.Common.{◌≡◌, ℕ, ◌≤◌, true, false, List, [], ◌∷◌, length, Some, None, Option, sym, refl, ◌∙◌, subst, inl, inr, arith}
use Rattle.std.specs.List.{AllByRecursion}
use Rattle.std.proofs.lemmas.Bool.{cond-true, cond-false, not-false}
use Rattle.statements.proofs.Tests.{test_clash, test_cases}
use Rattle.facts.specs.Model.{Model}
use Rattle.facts.specs.Laws.{Laws, Exact}
use Rattle.plan.specs.Placements.{Placed, Premises, InForce, Meets}
use Rattle.sets.specs.Members.{Within, count}
use Rattle.telling.specs.Tables.{upd, facts}
use Rattle.telling.specs.Stable.{Stable, Still}
use Rattle.telling.proofs.Cases.{all_weaker}
use Rattle.calls.specs.Networks.{Net, Planned, NoneMeets}
use Rattle.calls.specs.Boards.{Board}
use Rattle.calls.specs.Running.{Outcome, quiet, conflict, spent}
use Rattle.calls.specs.Trails.{Trail, guesses, words}
use Rattle.calls.specs.Searching.{Finding, found, none_left, full, spent as tired}
use Rattle.calls.specs.Keeping.{keep_run, keep_seek}
use Rattle.calls.specs.States.{State, is_open}
use Rattle.calls.specs.Refusals.{Call, clear, bring, lift, run, read, kept, begin, seek, finish, Row, first_row, kept_rows, while_open, uncleared, misfit, absent, brought, waiting, refusal}
use Rattle.calls.specs.Refusals.{lifted as out}
use Rattle.calls.specs.Calls.{Answer, refused, done, lifted, ran, listed, sought, finished, clear_board, bring_board, lift_board, resting, reading, Does, refuses, clears, brings, lifts, runs, reads, lists, begins, seeks, finishes, idles}
use Rattle.calls.specs.Histories.{Event, Offers, History, made, calls}
use Rattle.laws.specs.Promises.{Always, OnQuiet, OnConflict, OnFound, OnNone, Rested, RunsRight, by_run, by_seek, Answered, Contradicted, ConflictsRight, Placing, SeeksRight, RefusalsRight, Hopeless, ConflictsHopeless, StableForFewer, Promised, Promises, numbers}
use Rattle.laws.specs.Inside.{Apart, StaysRight}
use Rattle.laws.proofs.Numbered.{none_some, all_nth, all_from_nth}
use Rattle.laws.proofs.Live.{Tabled, Live}
use Rattle.laws.proofs.Runs.{QuietBoard, ConflictBoard, Ran, run_right, ran_stepped}
use Rattle.laws.proofs.Searches.{Sound, Vain, Met, Sought, seek_right}
use Rattle.laws.proofs.Keeping.{keep_all, keeps_apart}
use Rattle.laws.proofs.Boards.{clear_live, clear_tabled, bring_live, bring_tabled, lift_live, lift_tabled}

-- ---- rows

-- Where no row applies, the first does not.
row_free : (r : Row) (rs : List Row) → first_row (r ∷ rs) ≡ None → (r.applies ≡ false) × (first_row rs ≡ None)
row_free r rs e = test_cases {P = (r.applies ≡ false) × (first_row rs ≡ None)} r.applies
    (λ p. none_some r.refusal (sym (sym (cond-true r.applies (Some r.refusal) (first_row rs) p) ∙ e)))
    (λ p. (p, sym (cond-false r.applies (Some r.refusal) (first_row rs) p) ∙ e))

shut : (t : Option Trail) → is_open t ≡ false → t ≡ None
shut None e = refl
shut (Some t) e = test_clash refl e

some_same : (a b : Trail) → Some a ≡ Some b → a ≡ b
some_same a b e = cc

-- ---- what holds after a history

module _ {F : Type 0} (m : Model F) (l : Laws m) (N : Net) (ok : Planned N) where
  -- No placement meets the conflict, and it was answered before.
  abbrev Known : List (Event F) → Premises → Type 0
  Known es r = NoneMeets Placed N r × Answered r es

  -- What holds of the state after some events.
  pub record Holds (es : List (Event F)) (s : State F) : Type 0 where
    pub keeps : AllByRecursion (Known es) s.kept
    pub apart : Apart s.kept
    pub few_kept : length s.kept ≤ 64
    pub live : s.cleared ≡ true → s.trail ≡ None → Live m l N Placed (λ v p. p) s.force [] s.board × Tabled m l N s.board.table
    pub searching : (t : Trail) → s.trail ≡ Some t → Sound m l N ok s.force (record { board = s.board; trail = t })

  known_later : (e : Event F) (es : List (Event F)) (ks : List Premises) → AllByRecursion (Known es) ks → AllByRecursion (Known (e ∷ es)) ks
  known_later e es ks h = all_weaker (Known es) (Known (e ∷ es)) (λ r k. (k.0, inr k.1)) ks h

  -- ---- what is claimed of an event

  pub record Claimed (es : List (Event F)) (e : Event F) : Type 0 where
    pub runs_right : RunsRight m N es e
    pub conflicts_right : ConflictsRight N es e
    pub seeks_right : SeeksRight m N es e
    pub refusals_right : RefusalsRight es e
    pub conflicts_hopeless : ConflictsHopeless m N es e

  abbrev event : State F → Call → Answer → State F → Event F
  event s c a s' = record { early = s; call = c; answer = a; late = s' }

  -- A call claims what it claims, and leaves what holds.
  abbrev Next : List (Event F) → State F → Call → Answer → State F → Type 0
  Next es s c a s' = Claimed es (event s c a s') × Holds (event s c a s' ∷ es) s'

  -- A call that leaves the state leaves what holds.
  holds_same : (es : List (Event F)) (s : State F) (c : Call) (a : Answer) → Holds es s → Holds (event s c a s ∷ es) s
  holds_same es s c a h = record { keeps = known_later (event s c a s) es s.kept h.keeps; apart = h.apart; few_kept = h.few_kept; live = h.live; searching = h.searching }

  -- ---- runs

  run_claimed : (es : List (Event F)) (s s' : State F) (c : Call) (o : Outcome) (n : ℕ) → s'.force ≡ s.force → Ran m l N ok s.force s.board o n s'.board → Claimed es (event s c (ran o n) s')
  run_claimed es s s' c o n same r = record {
    runs_right = (ran_stepped m l N ok s.force s.board o n s'.board r, on_quiet o r.on_quiet);
    conflicts_right = (on_conflict o r.on_conflict, tt, tt);
    seeks_right = tt;
    refusals_right = tt;
    conflicts_hopeless = on_hopeless o r.on_conflict;
  }
    where
      on_quiet : (o : Outcome) → OnQuiet (QuietBoard m l N ok s.force s'.board) o → OnQuiet (Rested m N s') o
      on_quiet quiet q = record {
        stable = subst (λ f. Stable m N.constraints f (facts s'.board.table)) (sym same) q.stable;
        least = λ φ st x. q.least φ (subst (λ f. Stable m N.constraints f φ) same st) x;
      }
      on_quiet (conflict z) q = tt
      on_quiet spent q = tt

      on_conflict : (o : Outcome) → OnConflict (ConflictBoard m l N ok s.force) o → OnConflict (Contradicted N s') o
      on_conflict quiet q = tt
      on_conflict (conflict z) q = (q.none_meet, subst (Within z) (sym same) q.all_in_force)
      on_conflict spent q = tt

      on_hopeless : (o : Outcome) → OnConflict (ConflictBoard m l N ok s.force) o → OnConflict (λ z. Hopeless m N s') o
      on_hopeless quiet q = tt
      on_hopeless (conflict z) q = λ φ st. q.hopeless φ (subst (λ f. Stable m N.constraints f φ) same st)
      on_hopeless spent q = tt

  -- What is kept after a run is known, apart and few.
  run-kept : (es : List (Event F)) (s s' : State F) (c : Call) (o : Outcome) (n : ℕ) → s'.force ≡ s.force → OnConflict (ConflictBoard m l N ok s.force) o → Holds es s →
      AllByRecursion (Known (event s c (ran o n) s' ∷ es)) (keep_run o s.kept) × Apart (keep_run o s.kept) × (length (keep_run o s.kept) ≤ 64)
  run-kept es s s' c quiet n same q h = (known_later (event s c (ran quiet n) s') es s.kept h.keeps, h.apart, h.few_kept)
  run-kept es s s' c (conflict r) n same q h =
      let e = event s c (ran (conflict r) n) s' in (
        keep_all (Known (e ∷ es)) r s.kept (q.none_meet, inl (by_run n, subst (Within r) (sym same) q.all_in_force)) (known_later e es s.kept h.keeps),
        keeps_apart.keep_apart r s.kept h.apart,
        keeps_apart.keep_few r s.kept h.few_kept,
      )
  run-kept es s s' c spent n same q h = (known_later (event s c (ran spent n) s') es s.kept h.keeps, h.apart, h.few_kept)

  -- ---- seeks

  seek_claimed : (es : List (Event F)) (s s' : State F) (c : Call) (o : Finding) (n : ℕ) (t t' : Trail) → Exact m → s.trail ≡ Some t → s'.trail ≡ Some t' → s'.force ≡ s.force →
      Sought m l N ok s.force (record { board = s.board; trail = t }) o n (record { board = s'.board; trail = t' }) → Claimed es (event s c (sought o n) s')
  seek_claimed es s s' c o n t t' exact at at' same r = record {
    runs_right = tt;
    conflicts_right = (tt, on_none o r.on_none, tt);
    seeks_right = (record { trail = t; trail' = t'; open_before = at; open_after = at'; moves = r.made }, on_found o r.on_found, on_none o r.on_none);
    refusals_right = tt;
    conflicts_hopeless = tt;
  }
    where
      on_found : (o : Finding) → OnFound (Met m l N ok s.force (record { board = s'.board; trail = t' })) o → OnFound (Placing m N s') o
      on_found found q = let p = q exact in (p.0, subst (λ f. Meets (numbers m N s') f N.constraints) (sym same) p.1)
      on_found (none_left z) q = tt
      on_found full q = tt
      on_found tired q = tt

      on_none : (o : Finding) → OnNone (Vain m l N ok s.force) o → OnNone (Contradicted N s') o
      on_none found q = tt
      on_none (none_left z) q = (q.0, subst (Within z) (sym same) q.1)
      on_none full q = tt
      on_none tired q = tt

  seek-kept : (es : List (Event F)) (s s' : State F) (c : Call) (o : Finding) (n : ℕ) → s'.force ≡ s.force → OnNone (Vain m l N ok s.force) o → Holds es s →
      AllByRecursion (Known (event s c (sought o n) s' ∷ es)) (keep_seek o s.kept) × Apart (keep_seek o s.kept) × (length (keep_seek o s.kept) ≤ 64)
  seek-kept es s s' c found n same q h = (known_later (event s c (sought found n) s') es s.kept h.keeps, h.apart, h.few_kept)
  seek-kept es s s' c (none_left r) n same q h =
      let e = event s c (sought (none_left r) n) s' in (
        keep_all (Known (e ∷ es)) r s.kept (q.0, inl (by_seek n, subst (Within r) (sym same) q.1)) (known_later e es s.kept h.keeps),
        keeps_apart.keep_apart r s.kept h.apart,
        keeps_apart.keep_few r s.kept h.few_kept,
      )
  seek-kept es s s' c full n same q h = (known_later (event s c (sought full n) s') es s.kept h.keeps, h.apart, h.few_kept)
  seek-kept es s s' c tired n same q h = (known_later (event s c (sought tired n) s') es s.kept h.keeps, h.apart, h.few_kept)

  -- ---- one call

  unclaimed : (es : List (Event F)) (s : State F) (c : Call) (s' : State F) → Claimed es (event s c done s')
  unclaimed es s c s' = record { runs_right = tt; conflicts_right = (tt, tt, tt); seeks_right = tt; refusals_right = tt; conflicts_hopeless = tt }

  -- A search begins sound.
  begin-sound : (force : Premises) (b : Board F) → Live m l N Placed (λ v p. p) force [] b → Sound m l N ok force (record { board = b; trail = [] })
  unfolding words
  begin-sound force b live = record { live = live; true-trail = tt; right = record { few_guesses = omega arith; few_entries = omega arith; all_told = λ _. tt } }

  pub does_right : {s : State F} {c : Call} {a : Answer} {s' : State F} (es : List (Event F)) → Offers m c → Does m N s c a s' → Holds es s → Next es s c a s'
  unfolding refusal
  does_right es offers (refuses s c r e) h = (
    record { runs_right = tt; conflicts_right = (tt, tt, tt); seeks_right = tt; refusals_right = refl; conflicts_hopeless = tt },
    holds_same es s c (refused r) h,
  )
  does_right es offers (clears s n e) h =
      let r₁ = row_free (while_open N s) (misfit N s n ∷ []) e in
      let closed = shut s.trail r₁.0 in
      let s' : State F = record { board = clear_board m N s.force; force = s.force; kept = s.kept; cleared = true; trail = s.trail } in (
        unclaimed es s (clear n) s',
        record {
          keeps = known_later (event s (clear n) done s') es s.kept h.keeps;
          apart = h.apart;
          few_kept = h.few_kept;
          live = λ _ _. (clear_live m l N ok Placed (λ v p. p) s.force, clear_tabled m l N ok Placed (λ v p. p) s.force);
          searching = λ t at. none_some t (sym closed ∙ at);
        },
      )
  does_right es offers (brings s p e) h =
      let r₁ = row_free (while_open N s) (uncleared N s ∷ absent N s p N.premises ∷ brought N s p ∷ kept_rows 0 (upd s.force p true) s.kept) e in
      let r₂ = row_free (uncleared N s) (absent N s p N.premises ∷ brought N s p ∷ kept_rows 0 (upd s.force p true) s.kept) r₁.1 in
      let closed = shut s.trail r₁.0 in
      let was = h.live (not-false s.cleared r₂.0) closed in
      let s' : State F = record { board = bring_board m N p s.board; force = upd s.force p true; kept = s.kept; cleared = s.cleared; trail = s.trail } in (
        unclaimed es s (bring p) s',
        record {
          keeps = known_later (event s (bring p) done s') es s.kept h.keeps;
          apart = h.apart;
          few_kept = h.few_kept;
          live = λ _ _. (bring_live m l N ok Placed (λ v q. q) s.force p s.board was.0, bring_tabled m l N ok Placed (λ v q. q) p s.board was.1);
          searching = λ t at. none_some t (sym closed ∙ at);
        },
      )
  does_right es offers (lifts s p n e) h =
      let r₁ = row_free (while_open N s) (uncleared N s ∷ misfit N s n ∷ absent N s p N.premises ∷ out N s p ∷ []) e in
      let r₂ = row_free (uncleared N s) (misfit N s n ∷ absent N s p N.premises ∷ out N s p ∷ []) r₁.1 in
      let closed = shut s.trail r₁.0 in
      let was = h.live (not-false s.cleared r₂.0) closed in
      let s' : State F = record { board = lift_board m N s.force p s.board; force = upd s.force p false; kept = s.kept; cleared = s.cleared; trail = s.trail } in (
        record { runs_right = tt; conflicts_right = (tt, tt, tt); seeks_right = tt; refusals_right = tt; conflicts_hopeless = tt },
        record {
          keeps = known_later (event s (lift p n) (lifted (count (resting m N p s.board.table) N.cells)) s') es s.kept h.keeps;
          apart = h.apart;
          few_kept = h.few_kept;
          live = λ _ _. (lift_live m l N ok Placed (λ v q. q) s.force p s.board was.0, lift_tabled m l N ok Placed (λ v q. q) s.force p s.board was.1);
          searching = λ t at. none_some t (sym closed ∙ at);
        },
      )
  does_right es offers (runs s i n o k b e r) h =
      let r₁ = row_free (while_open N s) (uncleared N s ∷ misfit N s n ∷ []) e in
      let r₂ = row_free (uncleared N s) (misfit N s n ∷ []) r₁.1 in
      let closed = shut s.trail r₁.0 in
      let was = h.live (not-false s.cleared r₂.0) closed in
      let g = run_right m l N ok r was.0 was.1 in
      let s' : State F = record { board = b; force = s.force; kept = keep_run o s.kept; cleared = s.cleared; trail = s.trail } in
      let ks = run-kept es s s' (run i n) o k refl g.on_conflict h in (
        run_claimed es s s' (run i n) o k refl g,
        record {
          keeps = ks.0;
          apart = ks.1;
          few_kept = ks.2;
          live = λ _ _. (g.live, g.tabled);
          searching = λ t at. none_some t (sym closed ∙ at);
        },
      )
  does_right es offers (reads s c n e) h = (
    record { runs_right = tt; conflicts_right = (tt, tt, tt); seeks_right = tt; refusals_right = refl; conflicts_hopeless = tt },
    holds_same es s (read c n) (reading m N (s.board.table c)) h,
  )
  does_right es offers (lists s i r e at) h = (
    record { runs_right = tt; conflicts_right = (tt, tt, all_nth (Known es) s.kept i r h.keeps at); seeks_right = tt; refusals_right = refl; conflicts_hopeless = tt },
    holds_same es s (kept i) (listed r) h,
  )
  does_right es offers (begins s e) h =
      let r₁ = row_free (while_open N s) (uncleared N s ∷ waiting N s ∷ []) e in
      let r₂ = row_free (uncleared N s) (waiting N s ∷ []) r₁.1 in
      let closed = shut s.trail r₁.0 in
      let was = h.live (not-false s.cleared r₂.0) closed in
      let s' : State F = record { board = s.board; force = s.force; kept = s.kept; cleared = s.cleared; trail = Some [] } in (
        unclaimed es s begin s',
        record {
          keeps = known_later (event s begin done s') es s.kept h.keeps;
          apart = h.apart;
          few_kept = h.few_kept;
          live = λ _ at. none_some [] (sym at);
          searching = λ t at. subst (λ z. Sound m l N ok s.force (record { board = s.board; trail = z })) (some_same [] t at) (begin-sound s.force s.board was.0);
        },
      )
  does_right es offers (seeks s t i n o k q e at r) h =
      let g = seek_right m l N ok s.force r (h.searching t at) in
      let s' : State F = record { board = q.board; force = s.force; kept = keep_seek o s.kept; cleared = s.cleared; trail = Some q.trail } in
      let ks = seek-kept es s s' (seek i n) o k refl g.on_none h in (
        seek_claimed es s s' (seek i n) o k t q.trail offers at refl refl g,
        record {
          keeps = ks.0;
          apart = ks.1;
          few_kept = ks.2;
          live = λ _ none. none_some q.trail (sym none);
          searching = λ t' at'. subst (λ z. Sound m l N ok s.force (record { board = q.board; trail = z })) (some_same q.trail t' at') g.sound;
        },
      )
  does_right es offers (finishes s t at) h = (
    record { runs_right = tt; conflicts_right = (tt, tt, tt); seeks_right = tt; refusals_right = λ none. none_some t (sym none ∙ at); conflicts_hopeless = tt },
    record {
      keeps = known_later (event s finish (finished (guesses t)) (record { board = s.board; force = s.force; kept = s.kept; cleared = false; trail = None })) es s.kept h.keeps;
      apart = h.apart;
      few_kept = h.few_kept;
      live = λ c _. test_clash c refl;
      searching = λ t' e. none_some t' e;
    },
  )
  does_right es offers (idles s at) h = (
    record { runs_right = tt; conflicts_right = (tt, tt, tt); seeks_right = tt; refusals_right = λ _. (refl, refl); conflicts_hopeless = tt },
    holds_same es s finish (finished 0) h,
  )

  -- ---- histories

  pub history_right : {es : List (Event F)} {s : State F} → History m N es s → Always Claimed es × Holds es s
  history_right (made s h) = (
    tt,
    record {
      keeps = subst (AllByRecursion (Known [])) (sym h.none_kept) tt;
      apart = subst Apart (sym h.none_kept) tt;
      few_kept = subst (λ (z : List Premises). length z ≤ 64) (sym h.none_kept) (omega arith);
      live = λ c _. test_clash c h.not_cleared;
      searching = λ t at. none_some t (sym h.no_search ∙ at);
    },
  )
  history_right (calls es s c a s' h offers d) =
      let p = history_right h in
      let n = does_right es offers d p.1 in
      ((n.0, p.0), n.1)

  always_weaker : (P Q : List (Event F) → Event F → Type 0) → ((es : List (Event F)) (e : Event F) → P es e → Q es e) → (es : List (Event F)) → Always P es → Always Q es
  always_weaker P Q f [] h = tt
  always_weaker P Q f (e ∷ es) h = (f es e h.0, always_weaker P Q f es h.1)

  pub promised : (es : List (Event F)) (s : State F) → History m N es s → Promised m N es
  promised es s h =
      let all = (history_right h).0 in
      record {
        runs_right = always_weaker Claimed (RunsRight m N) (λ es e c. c.runs_right) es all;
        conflicts_right = always_weaker Claimed (ConflictsRight N) (λ es e c. c.conflicts_right) es all;
        seeks_right = always_weaker Claimed (SeeksRight m N) (λ es e c. c.seeks_right) es all;
        refusals_right = always_weaker Claimed RefusalsRight (λ es e c. c.refusals_right) es all;
        conflicts_hopeless = always_weaker Claimed (ConflictsHopeless m N) (λ es e c. c.conflicts_hopeless) es all;
      }

-- ---- all together

pub stable_for_fewer : {F : Type 0} (m : Model F) → StableForFewer m
stable_for_fewer m ks ks' s s' φ h st = record {
  tidy = st.tidy;
  still = all_from_nth (λ k. InForce s' k → Still m k φ) ks'
      (λ j k at f.
      let r = h j k at f in
      all_nth (λ c. InForce s c → Still m c φ) ks r.0.0 k st.still r.0.1 r.1);
}

pub promises : {F : Type 0} (m : Model F) → Laws m → Promises m
promises m l = record { promised = λ N ok es s h. promised m l N ok es s h; stable_for_fewer = stable_for_fewer m }

pub stays_right : {F : Type 0} (m : Model F) → Laws m → StaysRight m
stays_right m l N ok es s h =
    let holds = (history_right m l N ok h).1 in
    record { kept_apart = holds.apart; few_kept = holds.few_kept; trail_right = λ t at. (holds.searching t at).right }
