use Rattle.std.specs.Prelude.{is_some}
use Rattle.std.proofs.Common.{ap, ◌∙◌}
use Rattle.proof_check.proofs.Needed.{known_is}
use Rattle.proof_check.proofs.called.is_known.Goals as goal

pub returns : goal.returns
returns c = c.is_some.ensures ∙ ap is_some c.find.ensures ∙ known_is c.args.known.now c.args.name.now
