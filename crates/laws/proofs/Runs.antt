-- A run: what holds after it, its steps and their bound.
use Rattle.std.proofs.Common.{◌≡◌, ℕ, suc, ◌+◌, ◌-◌, ◌*◌, ◌<◌, ◌≤◌, true, [], length, subst, le_trans, le_refl, arith}
use Rattle.std.proofs.lemmas.Bool.{ltb-true}
use Rattle.facts.specs.Model.{Model, Tells}
use Rattle.facts.specs.Laws.{Laws}
use Rattle.facts.specs.Derived.{none}
use Rattle.facts.proofs.Order.{none_mono}
use Rattle.plan.specs.Placements.{Placed, Premises}
use Rattle.sets.specs.Members.{Within, count}
use Rattle.telling.specs.Reasons.{premise, guess, Among, premises_only}
use Rattle.telling.specs.Tables.{facts, table_size}
use Rattle.telling.specs.Stable.{Stable}
use Rattle.calls.specs.Networks.{Net, Planned, NoneMeets}
use Rattle.calls.specs.Boards.{Board}
use Rattle.calls.specs.Running.{Outcome, after_step, Steps, still, step, Run, clashes, rests, tires, steps}
use Rattle.laws.specs.Promises.{OnQuiet, OnConflict, Stepped}
use Rattle.laws.proofs.Calms.{calmed_stable}
use Rattle.laws.proofs.Counts.{measure, after_step-size, after_step_falls}
use Rattle.laws.proofs.Live.{at_hand, Tabled, Live, after_taken_tabled, after_step_live, none_meets, reasons-in_force}

module _ {F : Type 0} (m : Model F) (l : Laws m) (N : Net) (ok : Planned N) where
  pub after_step_tabled : (force : Premises) (j : ℕ) (b : Board F) → Tabled m l N b.table → Tabled m l N (after_step m N force j b).table
  unfolding after_step
  after_step_tabled force j b tb = after_taken_tabled m l N force j b.table tb

  -- With no search open the reasons at hand are premises in force.
  pub at_hand_premises : (force : Premises) → Among (at_hand force []) (premises_only force)
  at_hand_premises force (premise p) h = h
  at_hand_premises force (guess g) h = absurd (let lt = ltb-true g 0 h in omega arith)

  -- What is said of a run's answer, of the board that it leaves.
  pub record QuietBoard (force : Premises) (b : Board F) : Type 0 where
    pub stable : Stable m N.constraints force (facts b.table)
    pub least : (φ : ℕ → F) → Stable m N.constraints force φ → (x : ℕ) → Tells m (φ x) (b.table x).fact

  pub record ConflictBoard (force : Premises) (r : Premises) : Type 0 where
    pub none_meet : NoneMeets Placed N r
    pub all_in_force : Within r force
    pub hopeless : (φ : ℕ → F) → Stable m N.constraints force φ → (x : ℕ) × (x < N.cells) × (none m (φ x) ≡ true)

  pub record Ran (force : Premises) (b : Board F) (o : Outcome) (n : ℕ) (b' : Board F) : Type 0 where
    pub live : Live m l N Placed (λ v p. p) force [] b'
    pub tabled : Tabled m l N b'.table
    pub made : Steps m N force n b b'
    pub falls : n + measure m l N b' ≤ measure m l N b
    pub smaller : table_size m N.cells b'.table ≤ table_size m N.cells b.table
    pub on_quiet : OnQuiet (QuietBoard force b') o
    pub on_conflict : OnConflict (ConflictBoard force) o

  none_added : (x : ℕ) → 0 + x ≤ x
  none_added x = omega arith

  pub run_right : {force : Premises} {i : ℕ} {b : Board F} {o : Outcome} {n : ℕ} {b' : Board F} → Run m N force i b o n b' → Live m l N Placed (λ v p. p) force [] b → Tabled m l N b.table → Ran force b o n b'
  run_right {force} (clashes i x b low) h tb = record {
    live = h;
    tabled = tb;
    made = still b;
    falls = none_added (measure m l N b);
    smaller = le_refl (table_size m N.cells b.table);
    on_quiet = tt;
    on_conflict = record {
      none_meet = none_meets m l N Placed (λ v p. p) force [] b h x low.in_conflict (λ j lt. absurd (omega arith));
      all_in_force = λ p e. reasons-in_force m l N Placed (λ v q. q) force [] b h x p e;
      hopeless = λ φ st. (
        x,
        low.is_cell,
        none_mono m l (φ x) (b.table x).fact (tb force φ st x (λ g e. at_hand_premises force g ((h.fits x).scope g e))) low.in_conflict,
      );
    };
  }
  run_right {force} (rests i b clean idle) h tb = record {
    live = h;
    tabled = tb;
    made = still b;
    falls = none_added (measure m l N b);
    smaller = le_refl (table_size m N.cells b.table);
    on_quiet = record {
      stable = calmed_stable m l N force b ok h.calmed idle (λ x. (h.fits x).tidy);
      least = λ φ st x. tb force φ st x (λ g e. at_hand_premises force g ((h.fits x).scope g e));
    };
    on_conflict = tt;
  }
  run_right {force} (tires j b clean w) h tb = record {
    live = h;
    tabled = tb;
    made = still b;
    falls = none_added (measure m l N b);
    smaller = le_refl (table_size m N.cells b.table);
    on_quiet = tt;
    on_conflict = tt;
  }
  run_right {force} (steps i n j b b' o clean w r) h tb =
      let rest = run_right r (after_step_live m l N Placed (λ v p. p) ok force [] j b h) (after_step_tabled force j b tb) in
      let a = rest.falls in
      let f = after_step_falls m l N ok force j b h.bounded w in
      record {
        live = rest.live;
        tabled = rest.tabled;
        made = step n j b b' clean w rest.made;
        falls = add_one n (measure m l N b') (measure m l N (after_step m N force j b)) (measure m l N b) a f;
        smaller = le_trans rest.smaller (after_step-size m l N force j b);
        on_quiet = rest.on_quiet;
        on_conflict = rest.on_conflict;
      }
    where
      add_one : (n x y z : ℕ) → n + x ≤ y → suc y ≤ z → suc n + x ≤ z
      add_one n x y z p q = omega arith

  bound-from : (C n w W S S' d : ℕ) → n + (w + C * S') ≤ W + C * S → S ≡ S' + d → n ≤ W + C * d
  bound-from C n w W S S' d p e =
      let q : n + (w + C * S') ≤ W + C * (S' + d) = subst (λ z. n + (w + C * S') ≤ W + C * z) e p in
      omega arith

  pub ran_stepped : (force : Premises) (b : Board F) (o : Outcome) (n : ℕ) (b' : Board F) → Ran force b o n b' → Stepped m N force n b b'
  ran_stepped force b o n b' r =
      let S = table_size m N.cells b.table in
      let S' = table_size m N.cells b'.table in
      let le = r.smaller in
      let e : S ≡ S' + (S - S') = omega arith in
      record {
        steps = r.made;
        lost = S - S';
        lost_is = e;
        bound = bound-from (length N.constraints) n (count b'.waits 512) (count b.waits 512) S S' (S - S') r.falls e;
      }
