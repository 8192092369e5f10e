-- What holds of the index of a plan: the parts are those of its cells, and no constraint names another.
use Rattle.std.proofs.Common.{◌≡◌, ℕ, ◌≤◌, List, length, map, vec_items, vec_len, sym, ap, ◌∙◌, subst, arith, rules}
use Rattle.std.proofs.lemmas.List.{length-map}
use Rattle.std.proofs.lemmas.List.FromFn.{length-map-range_with_len}
use Rattle.std.specs.List.{range_with_len}
use Rattle.sets.specs.Members.{Nobody, listed}
use Rattle.plan.specs.Items.{planned}
use Rattle.plan.specs.declared.constraint.Constraint.{Constraint}
use Rattle.wakes.specs.Naming.{naming}
use Rattle.wakes.specs.Parts.{in_part}
use Rattle.wakes.proofs.Naming.{naming_none, parts_listed}
use Rattle.wakes.proofs.index.Index.new.Goals as goal

pub invariant_of-result : goal.invariant_of-result
invariant_of-result c =
    let plan = c.args.plan.now in
    let items = planned plan in
    let cells = c.cell_count.result in
    let same : vec_items c.in_ok-constraints.constraints ≡ items.constraints = search rules in
    let held = map (in_part (vec_items c.in_ok-parts.numbers)) (vec_items c.in_ok-parts.parts) in
    let lists = subst (λ (ks : List Constraint). held ≡ map (λ x. listed (naming ks x) (length ks)) (range_with_len 0 cells)) c.constraints-2.ensures c.in_ok-parts.ensures.parts in
    let count : vec_len plan.draft.cells ≡ cells = omega (arith, c.cell_count.ensures, plan.draft.cells.ok.0) in
    let outside : (x : ℕ) → cells ≤ x → Nobody (naming items.constraints x) = λ x l. naming_none (vec_len plan.draft.cells) (vec_len plan.draft.premises) x items.constraints (omega (arith, count)) plan.known in
    record {
      few = omega (arith, ap length same, plan.few_constraints, plan.draft.constraints.ok.0);
      inside = c.in_ok-parts.ensures.inside;
      part = λ x. parts_listed items.constraints cells held lists outside x ∙ ap (λ ks. listed (naming ks x) (length ks)) (sym same);
    }

pub returns-clause-cells : goal.returns-clause-cells
returns-clause-cells c =
    let lists = λ (x : ℕ). listed (naming c.constraints-2.result.now x) (length c.constraints-2.result.now) in
    omega (arith, ap length c.in_ok-parts.ensures.parts, length-map (vec_items c.in_ok-parts.parts) (in_part (vec_items c.in_ok-parts.numbers)), length-map-range_with_len lists 0 c.cell_count.result, c.cell_count.ensures, c.in_ok-parts.parts.ok.0)
