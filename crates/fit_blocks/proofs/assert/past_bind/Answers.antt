use Rattle.std.proofs.Common.{ap, ◌∙◌}
use Rattle.fit_blocks.proofs.AssertLemmas.{bind_as}
use Rattle.nres_core.proofs.FlatMirrored.{flat_mirrored}
use Rattle.nres_core.specs.FlatTree as t
use Rattle.nres_core.specs.FlatTree.{before_of}
use Rattle.fit_blocks.proofs.assert.past_bind.Goals as goal

pub returns-in-Calc : goal.returns-in-Calc
returns-in-Calc c =
    let a = c.in-Calc in
    bind_as c.args.next (before_of c.args.bind.now) (t.Calc_to a.place a.out a.word a.left a.right) c.past_calc.result (ap before_of a.is ∙ flat_mirrored.calc a.place a.out a.word a.left a.right) (c.past_calc.ensures a.place a.word)
