use Rattle.stories.proofs.Finds.{finding}
use Rattle.stories.proofs.Fails.{failing}
use Rattle.stories.proofs.stories_happen.Goals as goal

pub returns : goal.returns
returns g c =
    let m = g.K.Kind.model in
    let laws = g.met.K.Kind.lawful in
    let exact = g.met.K.ExactKind.exact in
    (finding m laws exact, failing m laws exact)
