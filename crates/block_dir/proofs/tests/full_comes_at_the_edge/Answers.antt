use Rattle.std.proofs.Common.{◌∙◌, ap, arith}
use Rattle.block_dir.specs.declared.view.View.{View}
use Rattle.block_dir.proofs.Fields.{weight_opening_view}
use Rattle.block_dir.proofs.tests.full_comes_at_the_edge.Goals as goal

pub split-other-requires-clause-weight : goal.split-other-requires-clause-weight
split-other-requires-clause-weight g c = let a = ap (λ (v : View). v.weight) c.in_ok-directory.ensures.2 ∙ weight_opening_view 1 in omega arith
