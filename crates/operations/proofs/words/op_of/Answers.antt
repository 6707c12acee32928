use Rattle.std.proofs.Common.{ap, ◌∙◌}
use Rattle.nres_core.specs.Mirror.{rep_of}
use Rattle.nres_core.specs.Operations.{meant}
use Rattle.nres_meaning.specs.Meaning.{head_of}
use Rattle.nres_meaning.specs.WordOperations.{meant_op, op_named}
use Rattle.operations.proofs.words.op_of.Goals as goal

pub returns : goal.returns
unfolding meant op_named
returns c = c.of_meant.ensures ∙ ap (λ z. meant_op z (rep_of c.args.made) (head_of c.args.args.now)) (c.look_up.ensures ∙ ap meant c.bytes.ensures)
