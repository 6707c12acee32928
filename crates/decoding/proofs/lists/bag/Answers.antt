use Rattle.std.proofs.Common.{refl, ◌∙◌, sym, arith}
use Rattle.decoding.proofs.Loops.{no_items, next_item}
use Rattle.decoding.proofs.lists.bag.Goals as goal

pub loop-done-init : goal.loop-done-init
loop-done-init c = (refl, c.new-bag.ensures ∙ no_items c.args.numbers.now)

pub loop-done-preserved : goal.loop-done-preserved
loop-done-preserved c = (refl, c.in_ok-add.ensures.added ∙ next_item c.args.numbers.now c.loop-done.done _ c.loop-done-test.true c.loop-done.invariant.1)
