-- The part of each cell follows those before it.
use Rattle.std.proofs.Common.{◌≡◌, ℕ, ◌+◌, List, [], ◌∷◌, ◌++◌, length, map, vec_items, sym, ap, ◌∙◌, subst, arith, length-append}
use Rattle.std.proofs.lemmas.List.{length-map}
use Rattle.std.proofs.lemmas.List.FromFn.{map-range_with_len_more, length-map-range_with_len}
use Rattle.sets.specs.Members.{listed}
use Rattle.wakes.specs.Naming.{naming}
use Rattle.wakes.specs.Parts.{in_part, Inside}
use Rattle.wakes.specs.declared.part.Part.{Part}
use Rattle.wakes.proofs.Growing.{inside_no_part, inside_next_part, parts_more}
use Rattle.wakes.proofs.Totals.{length-listed, total_none, total_more, total_naming}
use Rattle.wakes.proofs.parts.parts_of.Goals as goal

pub loop-cell-init : goal.loop-cell-init
loop-cell-init c =
    let ks = c.args.constraints.now in
    let n = length (vec_items c.new-numbers.result) in
    record {
      room = c.in_ok-parts.ensures.capacity;
      inside = subst (λ (ps : List Part). Inside ps n) (sym c.in_ok-parts.ensures.items) (inside_no_part n);
      size = ap length c.new-numbers.ensures.items ∙ sym (total_none (naming ks) (length ks));
      parts = ap (map (in_part (vec_items c.new-numbers.result))) c.in_ok-parts.ensures.items;
    }

pub add_part-requires : goal.add_part-requires
add_part-requires c =
    let ks = c.args.constraints.now in
    record {
      few = c.requires;
      room = omega (arith, c.requires, c.loop-cell.invariant.size, total_naming ks (length ks) c.loop-cell.cell);
    }

pub push_reserved-requires : goal.push_reserved-requires
push_reserved-requires c =
    let ks = c.args.constraints.now in
    let lists = λ (x : ℕ). listed (naming ks x) (length ks) in
    let parts = vec_items c.loop-cell.parts in
    let long = ap length c.loop-cell.invariant.parts in
    omega (arith, long, length-map parts (in_part (vec_items c.loop-cell.numbers)), length-map-range_with_len lists 0 c.loop-cell.cell, c.loop-cell.parts.ok.0, c.loop-cell.invariant.room, c.loop-cell-test.true)

pub loop-cell-preserved : goal.loop-cell-preserved
loop-cell-preserved c =
    let ks = c.args.constraints.now in
    let lists = λ (x : ℕ). listed (naming ks x) (length ks) in
    let cell = c.loop-cell.cell in
    let known = c.loop-cell.invariant in
    let parts = vec_items c.loop-cell.parts in
    let part = c.in_ok-add_part.field-0 in
    let xs = vec_items c.loop-cell.numbers in
    let ys = lists cell in
    let numbers = vec_items c.add_part.new.numbers in
    let added : numbers ≡ xs ++ ys = c.in_ok-add_part.ensures.added in
    let pushed : vec_items c.push_reserved.new.self ≡ parts ++ (part ∷ []) = c.push_reserved.ensures.items in
    let lies = c.in_ok-add_part.ensures.lies in
    let grows : length numbers ≡ length xs + length ys = ap length added ∙ length-append xs ys in
    record {
      room = omega (arith, c.push_reserved.ensures.capacity, known.room);
      inside = subst (λ (ps : List Part). Inside ps (length numbers)) (sym pushed) (inside_next_part parts part (length xs) (length numbers) known.inside (omega (arith, grows)) (omega (arith, lies.1)));
      size = omega (arith, grows, known.size, length-listed (naming ks cell) (length ks), total_more (naming ks) (length ks) cell);
      parts =
          ap (λ r. map (in_part r) (vec_items c.push_reserved.new.self)) added
          ∙ ap (map (in_part (xs ++ ys))) pushed
          ∙ parts_more parts part xs ys known.inside lies.0 (lies.1 ∙ ap length added)
          ∙ ap (λ r. r ++ (ys ∷ [])) known.parts
          ∙ sym (map-range_with_len_more lists 0 cell cell (omega arith));
    }
