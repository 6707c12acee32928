use Rattle.std.proofs.Common.{ap, ◌∙◌}
use Rattle.nres_core.specs.FlatTree.{◌+++◌, binds_of}
use Rattle.nres_flat.proofs.Joining.{pushed}
use Rattle.nres_flat.proofs.divided.end_split.Goals as goal

pub returns-in_ok-push-in-Ok-clause-binds : goal.returns-in_ok-push-in-Ok-clause-binds
returns-in_ok-push-in-Ok-clause-binds c l r p q h k =
    let bs = c.args.binds.now in
    ap binds_of c.in_ok-push-in-Ok.ensures.ok ∙ (pushed bs c.split.result ∙ ap (λ z. binds_of bs +++ z) (rw c.in-Ok.ensures.numbers at (c.split.ensures l r p q h k)))
