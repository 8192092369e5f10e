use Rattle.std.proofs.Common.{◌≡◌, ◌++◌, ◌∷◌, [], cond, ap, ◌∙◌, rules}
use Rattle.plan.specs.Placements.{owned_by}
use Rattle.forms.specs.Tells.{tells}
use Rattle.cells.specs.Meaning.{table_of}
use Rattle.cells.specs.Changes.{changed_cells}
use Rattle.cells.proofs.Firing.{tells_more, tells_stop, tells_all, grown_then, grown_else}
use Rattle.cells.proofs.fire.make_tells.Goals as goal
use Rattle.cells.proofs.fire.make_tells.Goals.{then-make, else-make}

pub loop-t-preserved : goal.loop-t-preserved
loop-t-preserved g c =
    let m = g.K.Kind.model in
    let k = c.args.k in
    let t = c.in-Some.t in
    let cs = changed_cells c.loop-t.out in
    let cs' = changed_cells c.if-make.out in
    let grown : cs' ≡ cs ++ cond c.make.result (t.target ∷ []) [] = elim c.if-make.branch [
      | then-make w ↦ grown_then c.make.result t.target cs cs' w.if-make.true (ap changed_cells w.out-is ∙ w.push.ensures)
      | else-make w ↦ grown_else c.make.result t.target cs cs' w.if-make.false (ap changed_cells w.out-is)
    ] in
    record {
      fit = search rules;
      so_far = tells_more m (owned_by k.owner) (tells k.form) c.loop-t.invariant.so_far t c.next.new.self (table_of m c.make.new.table) c.make.result cs' c.in-Some.ensures.steps c.make.ensures.table c.make.ensures.change grown c.if-conflict_at.ensures;
    }

pub returns-in-None : goal.returns-in-None
returns-in-None g c =
    let k = c.args.k in
    let all = tells_all g.K.Kind.model (owned_by k.owner) (tells k.form) c.loop-t.invariant.so_far c.in-None.ensures.steps.0 in
    record { table = all.0; cells = all.1 }

pub returns-then-conflict_at : goal.returns-then-conflict_at
returns-then-conflict_at g c =
    let m = g.K.Kind.model in
    let k = c.args.k in
    let t = c.in-Some.t in
    let cs = changed_cells c.loop-t.out in
    let cs' = changed_cells c.if-make.out in
    let grown : cs' ≡ cs ++ cond c.make.result (t.target ∷ []) [] = elim c.if-make.branch [
      | then-make w ↦ grown_then c.make.result t.target cs cs' w.if-make.true (ap changed_cells w.out-is ∙ w.push.ensures)
      | else-make w ↦ grown_else c.make.result t.target cs cs' w.if-make.false (ap changed_cells w.out-is)
    ] in
    let all = tells_stop m (owned_by k.owner) (tells k.form) c.loop-t.invariant.so_far t c.next.new.self (table_of m c.make.new.table) c.make.result cs' c.in-Some.ensures.steps c.make.ensures.table c.make.ensures.change grown c.if-conflict_at.ensures in
    record { table = all.0; cells = all.1 }

pub loop-t-init : goal.loop-t-init
loop-t-init g c = record { fit = search rules; so_far = search rules }
