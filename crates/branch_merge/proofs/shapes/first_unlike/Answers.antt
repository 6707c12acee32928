use Rattle.std.proofs.Common.{◌∙◌, suc, sym, arith}
use Rattle.branch_merge.proofs.ShapesLemmas.{none_unlike}
use Rattle.branch_merge.proofs.shapes.first_unlike.Goals as goal

pub returns : goal.returns
returns c = sym (c.each.invariant ∙ none_unlike c.args.shown.now c.args.results.now c.each.index (suc c.each.index) (omega arith))
