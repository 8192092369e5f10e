use Rattle.std.proofs.Common.{length, sym, ◌∙◌, subst}
use Rattle.plan.specs.Forms.{named}
use Rattle.cells.specs.Meaning.{Inside, table_of}
use Rattle.cells.proofs.Tables.{read_reasons}
use Rattle.cells.proofs.Readings.{reasons_begun, reasons_more}
use Rattle.cells.proofs.fire.form_reasons.Goals as goal

pub loop-x-init : goal.loop-x-init
loop-x-init g c =
    let all = c.into_iter-x-iterator.ensures.into_iter_gives ∙ c.named-x-items.ensures in
    record {
      inside = subst (Inside (length c.args.table.now)) (sym all) c.requires;
      so_far = reasons_begun (table_of g.K.Kind.model c.args.table.now) (named c.args.form) all c.none-all.ensures;
    }

pub loop-x-preserved : goal.loop-x-preserved
loop-x-preserved g c =
    let m = g.K.Kind.model in
    let xs = c.args.table.now in
    let here = subst (Inside (length xs)) c.in-Some.ensures.steps c.loop-x.invariant.inside in
    record {
      inside = here.1;
      so_far = reasons_more (table_of m xs) (named c.args.form) c.in-Some.x _ c.loop-x.invariant.so_far c.in-Some.ensures.steps (read_reasons m xs c.in-Some.x _ here.0) c.union-all.ensures;
    }
