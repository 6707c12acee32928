use Rattle.std.proofs.Common.{◌∙◌, ap, arith}
use Rattle.block_dir.specs.declared.view.View.{View}
use Rattle.block_dir.proofs.Laws.{owns_won, whole_won, whole_written}
use Rattle.block_dir.proofs.Fields.{weight_written, weight_won, weight_opening_view}
use Rattle.block_dir.proofs.tests.a_lent_block_is_read_by_both_and_whole_again.Goals as goal

pub write-requires-clause-held : goal.write-requires-clause-held
write-requires-clause-held g c = rw c.in-Won.ensures.claimed.2 (owns_won _ _ _ _ (omega arith))

pub look_twice-one-requires-clause-weight : goal.look_twice-one-requires-clause-weight
look_twice-one-requires-clause-weight g c =
    let w = ap (λ (v : View). v.weight) c.write.ensures.written ∙ weight_written _ _ _ in
    let a = ap (λ (v : View). v.weight) c.in-Won.ensures.claimed.2 ∙ weight_won _ _ _ in
    let b = ap (λ (v : View). v.weight) c.in_ok-directory.ensures.2 ∙ weight_opening_view 100 in omega arith

pub look_twice-one-requires-clause-whole : goal.look_twice-one-requires-clause-whole
look_twice-one-requires-clause-whole g c = rw (c.write.ensures.written, c.in-Won.ensures.claimed.2) (whole_written _ _ _ _ _ (λ e. omega arith) (whole_won _ _ _))
