use Rattle.std.proofs.Common.{sym}
use Rattle.fit_state.proofs.ShapesLemmas.{same_lengths}
use Rattle.fit_state.proofs.shapes.same_shapes.Goals as goal

pub returns-then-some-others : goal.returns-then-some-others
returns-then-some-others c = sym (same_lengths c.args.some.now c.args.others.now c.if-some-others.true)
