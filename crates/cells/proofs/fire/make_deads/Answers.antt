use Rattle.std.proofs.Common.{length, ◌∙◌, ap₂, refl, subst, rules}
use Rattle.std.proofs.lemmas.Bool.{lt-ltb}
use Rattle.facts.specs.Derived.{dead}
use Rattle.plan.specs.Forms.{named}
use Rattle.plan.specs.Placements.{owned_by}
use Rattle.telling.specs.Reasons.{together}
use Rattle.cells.specs.Meaning.{Inside, tags_of, table_of}
use Rattle.cells.specs.Changes.{changed_cells}
use Rattle.cells.proofs.Firing.{deads_more, deads_all, grown_then, grown_else}
use Rattle.cells.proofs.fire.make_deads.Goals as goal

pub loop-x-preserved : goal.loop-x-preserved
unfolding dead
loop-x-preserved g c =
    let m = g.K.Kind.model in
    let k = c.args.k in
    let x = c.in-Some.x in
    let cs = changed_cells c.loop-x.out in
    let here = subst (Inside (length c.loop-x.table)) c.in-Some.ensures.steps c.loop-x.invariant.inside in
    record {
      inside = search rules;
      so_far = deads_more m (owned_by k.owner) (named k.form) c.loop-x.invariant.so_far x c.next.new.self c.state.result (tags_of c.union-s.result) _ (table_of m c.tell.new.table) c.tell.result cs c.in-Some.ensures.steps
          (lt-ltb x (length c.loop-x.table) here.0) c.tell.ensures.table c.state.ensures (c.union-s.ensures ∙ ap₂ together c.owned.ensures c.form_reasons.ensures) c.tell.ensures.change (grown_else c.tell.result x cs cs c.if-tell.false refl);
    }

pub loop-x-preserved-then-tell : goal.loop-x-preserved-then-tell
unfolding dead
loop-x-preserved-then-tell g c =
    let m = g.K.Kind.model in
    let k = c.args.k in
    let x = c.in-Some.x in
    let cs = changed_cells c.loop-x.out in
    let cs' = changed_cells c.push.new.self in
    let here = subst (Inside (length c.loop-x.table)) c.in-Some.ensures.steps c.loop-x.invariant.inside in
    record {
      inside = search rules;
      so_far = deads_more m (owned_by k.owner) (named k.form) c.loop-x.invariant.so_far x c.next.new.self c.state.result (tags_of c.union-s.result) _ (table_of m c.tell.new.table) c.tell.result cs' c.in-Some.ensures.steps
          (lt-ltb x (length c.loop-x.table) here.0) c.tell.ensures.table c.state.ensures (c.union-s.ensures ∙ ap₂ together c.owned.ensures c.form_reasons.ensures) c.tell.ensures.change (grown_then c.tell.result x cs cs' c.if-tell.true c.push.ensures);
    }

pub returns : goal.returns
returns g c =
    let k = c.args.k in
    let all = deads_all g.K.Kind.model (owned_by k.owner) (named k.form) c.loop-x.invariant.so_far c.in-None.ensures.steps.0 in
    record { table = all.0; cells = all.1 }
