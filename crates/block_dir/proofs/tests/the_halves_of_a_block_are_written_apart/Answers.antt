use Rattle.std.proofs.Common.{◌∙◌, ap, arith}
use Rattle.block_dir.specs.declared.view.View.{View}
use Rattle.block_dir.proofs.Laws.{owns_won}
use Rattle.block_dir.proofs.Fields.{weight_won, weight_opening_view}
use Rattle.block_dir.proofs.tests.the_halves_of_a_block_are_written_apart.Goals as goal

pub halves-seat-requires-clause-weight : goal.halves-seat-requires-clause-weight
halves-seat-requires-clause-weight g c =
    let a = ap (λ (v : View). v.weight) c.in-Won.ensures.claimed.2 ∙ weight_won _ _ _ in
    let b = ap (λ (v : View). v.weight) c.in_ok-directory.ensures.2 ∙ weight_opening_view 100 in omega arith

pub halves-seat-requires-clause-owned : goal.halves-seat-requires-clause-owned
halves-seat-requires-clause-owned g c i lt = rw c.in-Won.ensures.claimed.2 (owns_won _ _ _ i lt)
