use Rattle.std.proofs.Common.{◌∙◌, sym, ap, drop, ◌+◌}
use Rattle.inputs.specs.Inputs as rules
use Rattle.inputs.specs.Kept.{asked, onto, seen}
use Rattle.inputs.proofs.Given.{none_chosen, one_chosen}
use Rattle.inputs.proofs.lines.chosen.Goals as goal

pub returns-in_default : goal.returns-in_default
returns-in_default c =
    none_chosen c.args.given.now c.args.wanted.now c.loop-want.want-index c.want-item.result c.bytes.result.now c.loop-want.values.items _
    c.loop-want-test.true c.want-item.is c.bytes.ensures c.loop-want.invariant (sym c.in_default.is ∙ c.find.ensures)

pub loop-want-preserved : goal.loop-want-preserved
loop-want-preserved c =
    one_chosen c.args.given.now c.args.wanted.now c.loop-want.want-index c.want-item.result c.bytes.result.now c.loop-want.values.items _
    c.loop-want-test.true c.want-item.is c.bytes.ensures c.loop-want.invariant c.in-Some.value (sym c.in-Some.is ∙ c.find.ensures)
    ∙ ap (λ us. onto us (rules.chosen (seen c.args.given.now) (asked (drop (c.loop-want.want-index + 1) c.args.wanted.now)))) (sym c.in_ok-push_shared.ensures)
