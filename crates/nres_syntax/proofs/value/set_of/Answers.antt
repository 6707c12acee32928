use Rattle.std.proofs.Math.ListN.{get_or}
use Rattle.std.proofs.Common.{ap, ◌∙◌, sym, take}
use Rattle.std.specs.Cmp.{nat_cmp_total}
use Rattle.std.specs.FinSet as sets
use Rattle.nres_syntax.proofs.Values as values
use Rattle.nres_syntax.proofs.value.set_of.Goals as goal

pub loop-number-preserved : goal.loop-number-preserved
loop-number-preserved c =
    c.in_ok-add.ensures.added ∙ (ap (λ s. sets.insert s (get_or c.args.numbers.now c.loop-number.number-index 0)) c.loop-number.invariant
    ∙ (sym (sets.from_list_push nat_cmp_total sets.nat_cmp-IsAntisymmetric (take c.loop-number.number-index c.args.numbers.now) _)
    ∙ ap sets.from_list (sym (values.take_next c.args.numbers.now c.loop-number.number-index 0 c.loop-number-test.true))))
