use Rattle.std.proofs.Common.{◌∙◌, suc, sym, arith}
use Rattle.branch_merge.proofs.ShapesLemmas.{none_other}
use Rattle.branch_merge.proofs.shapes.first_other.Goals as goal

pub returns : goal.returns
returns c = sym (c.each.invariant ∙ none_other c.args.left.now c.args.right.now c.each.index (suc c.each.index) (omega arith))
