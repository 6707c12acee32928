use Rattle.std.proofs.Common.{◌∙◌, ◌∷◌, sym, ap, drop, ◌+◌}
use Rattle.inputs.specs.Inputs as rules
use Rattle.inputs.specs.Kept.{seen}
use Rattle.inputs.proofs.Given.{line_taken}
use Rattle.inputs.proofs.lines.taken.Goals as goal

pub returns-in-Some : goal.returns-in-Some
returns-in-Some c =
    line_taken c.args.needs.now c.loop-line.given c.line-item.result c.bytes-name.result.now c.bytes-name.ensures c.args.lines.now c.loop-line.line-index _ c.find-in-loop-line.result c.find.result c.is_some-is_given.result _
    c.loop-line-test.true c.line-item.is c.loop-line.invariant c.find-in-loop-line.ensures c.find.ensures c.is_some-is_given.ensures (sym c.in-Some.is ∙ c.in_ok-fault.ensures)

pub loop-line-preserved : goal.loop-line-preserved
loop-line-preserved c =
    line_taken c.args.needs.now c.loop-line.given c.line-item.result c.bytes-name.result.now c.bytes-name.ensures c.args.lines.now c.loop-line.line-index _ c.find-in-loop-line.result c.find.result c.is_some-is_given.result _
    c.loop-line-test.true c.line-item.is c.loop-line.invariant c.find-in-loop-line.ensures c.find.ensures c.is_some-is_given.ensures (sym c.in_default.is ∙ c.in_ok-fault.ensures)
    ∙ ap (λ n. rules.taken c.args.needs.now ((n, c.line-item.result.value) ∷ seen c.loop-line.given) (drop (c.loop-line.line-index + 1) c.args.lines.now)) (sym c.bytes-name.ensures)
    ∙ ap (λ es. rules.taken c.args.needs.now (seen es) (drop (c.loop-line.line-index + 1) c.args.lines.now)) (sym c.in_ok-bind.ensures)
