-- The owner, if there is one, is looked for among the premises in force.
use Rattle.std.proofs.Common.{◌≡◌, sym, ◌∙◌, rules}
use Rattle.sets.specs.Small.{holds}
use Rattle.wakes.proofs.Force.{asked, force-asked}
use Rattle.wakes.proofs.concern.is_in_force.Goals as goal

pub returns : goal.returns
returns c =
    let asked : c.is_none_or.result ≡ asked (holds c.args.force) c.args.k.now.owner = search rules in
    asked ∙ sym (force-asked (holds c.args.force) c.args.k.now)
