-- Two expressions and `<=` against the reading of the whole line.
use Rattle.std.proofs.Common.{◌≡◌, ℕ, List, [], pos, Some, None, Ok, Err, Option, Result, refl, ap, ◌∙◌}
use Rattle.words.specs.declared.Placed.{Placed}
use Rattle.words.specs.declared.Symbol.TheVariants.{AtMost}
use Rattle.grammar.specs.Tree.{Owner, at_most, constraint}
use Rattle.grammar.specs.Parse.{need, have, read, parse}
use Rattle.plan.specs.declared.constraint.Form.TheVariants.{Gap}
use Rattle.meaning.specs.Making.{adds, makes}
use Rattle.meaning.specs.Checks.{first, expr_fault}
use Rattle.sheet.specs.declared.reading.Stop.{Stop}
use Rattle.sheet.specs.Growing.{grows}
use Rattle.sheet.specs.Next.{Passes}
use Rattle.sheet.specs.Progress.{Progress, made, Pushed}
use Rattle.sheet.specs.Reads.{limit, spots, ReadsExpr}
use Rattle.sheet.specs.Forms.{Leaves, BoundTells}
use Rattle.sheet.proofs.Same.{first_assoc, same_expr, expr_fault_same}
use Rattle.sheet.proofs.Shapes.{out_of_memory}
use Rattle.sheet.proofs.Steps.{passed}

module _ {p : Progress} {ws : List Placed} {c : ℕ} {m : Progress} {us vs : List Placed} {d : ℕ} {u : Progress} (x : ReadsExpr 0 p ws c m us) (sign : Passes AtMost us vs) (y : ReadsExpr 0 m vs d u []) where
  bound-read : (o : Option Owner) → parse limit (need o None None []) (spots ws) ≡ read (constraint o (at_most x.tree sign.word.column y.tree))
  bound-read o = x.goes o None [] refl ∙ ap (parse limit (have o None x.tree [])) (passed sign) ∙ y.goes o (Some (x.tree, sign.word.column)) [] refl

  bound-leaves : (q : Option ℕ) (e : Progress) → e ≡ made u (adds q (Gap c (pos 0) d) u.items) → Leaves q (at_most x.tree sign.word.column y.tree) p e
  bound-leaves q e end =
      let ts = p.texts in
      let then = (makes ts None x.tree p.items).then in
      let last : u ≡ (grows y.tree (grows x.tree p).then).then = y.then_is ∙ ap (λ z. (grows y.tree z).then) x.then_is in
      let cell : d ≡ (makes ts None y.tree then).cell = y.cell_is ∙ ap (λ z. (grows y.tree z).cell) x.then_is in
      record {
        texts = ap (λ z. z.texts) end ∙ ap (λ z. z.texts) last;
        found = ap (λ z. z.found) end ∙ ap (λ z. z.found) last
            ∙ first_assoc p.found (expr_fault ts p.items x.tree) (expr_fault ts then y.tree)
            ∙ ap (λ f. first p.found (first (expr_fault ts p.items x.tree) f)) (expr_fault_same ts y.tree p.items then (same_expr ts None x.tree p.items));
        items = λ _. ap (λ z. z.items) end ∙ (λ n. adds q (Gap (x.cell_is n) (pos 0) (cell n)) (last n).items);
      }

  -- two expressions whose constraint was pushed, or found no memory
  pub bound-pushed : (r : Result (Unit {0}) Stop) (q : Option ℕ) (e : Progress) → Pushed r (adds q (Gap c (pos 0) d) u.items) u e → BoundTells r q p ws e
  bound-pushed (Ok v) q e end = λ o. (_, (bound-read o, bound-leaves q e end))
  bound-pushed (Err r) q e end = λ o. out_of_memory r (parse limit (need o None None []) (spots ws)) end
