use Rattle.std.proofs.Common.{ap, ◌∙◌, sym, take}
use Rattle.nres_syntax.proofs.Multisets.{bag_pushed}
use Rattle.nres_syntax.proofs.Values as values
use Rattle.nres_syntax.proofs.value.bag_with.Goals as goal

pub loop-number-init : goal.loop-number-init
loop-number-init c = c.new-bag.ensures ∙ values.bag_nil

pub loop-number-preserved : goal.loop-number-preserved
loop-number-preserved c =
    c.in_ok-add.ensures.added
    ∙ sym (bag_pushed (take c.loop-number.number-index c.args.numbers.now) _ _ _ (sym c.loop-number.invariant) (values.take_next c.args.numbers.now c.loop-number.number-index 0 c.loop-number-test.true))
