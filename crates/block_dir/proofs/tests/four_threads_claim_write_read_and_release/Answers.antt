use Rattle.std.proofs.Common.{◌∙◌, ap, arith}
use Rattle.block_dir.specs.declared.view.View.{View}
use Rattle.block_dir.proofs.Fields.{weight_opening_view}
use Rattle.block_dir.proofs.tests.four_threads_claim_write_read_and_release.Goals as goal

pub four-sum-requires-clause-weight : goal.four-sum-requires-clause-weight
four-sum-requires-clause-weight g c = let a = ap (λ (v : View). v.weight) c.in_ok-directory.ensures.2 ∙ weight_opening_view 100 in omega arith
