use Rattle.std.proofs.Common.{◌∙◌}
use Rattle.fit_steps.proofs.ShapesLemmas.{kinds_count}
use Rattle.fit_steps.proofs.shapes.kind_count.Goals as goal

pub returns : goal.returns
returns c = c.min.ensures ∙ kinds_count c.args.outs c.args.kinds.now
