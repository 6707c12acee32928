use Rattle.std.proofs.Common.{ap, ◌∙◌}
use Rattle.nres_core.specs.Operations.{meant}
use Rattle.nres_rules.specs.Types.{meant_taker, take_op}
use Rattle.nres_types.proofs.words.taker.Goals as goal

pub returns : goal.returns
unfolding take_op meant
returns c = c.meant_taker.ensures ∙ ap meant_taker c.look_up.ensures
