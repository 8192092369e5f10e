use Rattle.std.proofs.Common.{◌≡◌, cond, Ok, sym, ap, ◌∙◌, subst}
use Rattle.plan.specs.Items.{planned, drafted, nothing}
use Rattle.meaning.specs.Solutions.{SameSolutions}
use Rattle.meaning.proofs.Solving.{built_solves}
use Rattle.plan.specs.Names.{texts_of}
use Rattle.sheet.specs.Sheets.{trees_of}
use Rattle.sheet.proofs.Built.{sheets_built, sheets_fit}
use Rattle.sheet.proofs.sheets.read.Goals as goal

pub returns-in-Ok : goal.returns-in-Ok
returns-in-Ok c =
    let chip = c.args.texts.chip.now in
    let project = c.args.texts.project.now in
    let d = drafted c.in-Ok.draft in
    let is : planned c.fill.new.self ≡ d = c.fill.ensures.holds ∙ ap (λ b. cond b d nothing) (sheets_fit chip project d c.in-Ok.ensures) in
    record {
      tells = c.in-Ok.ensures ∙ ap Ok (sym is);
      same = subst (SameSolutions (texts_of c.args.texts) (trees_of chip project)) (sym is)
          (built_solves (texts_of c.args.texts) (trees_of chip project) d (sheets_built chip project d c.in-Ok.ensures));
    }
