use Rattle.std.proofs.Common.{sym, ◌∙◌}
use Rattle.proof_text.proofs.Lines.{is_spelled, is_not_spelled}
use Rattle.proof_text.proofs.reading.line.Goals as goal

pub returns-in-Ok-true : goal.returns-in-Ok-true
returns-in-Ok-true c = is_spelled c.args.text.now c.in_ok-line.line c.in_ok-line.ensures.known c.in_ok-line.ensures.only (sym c.in-Ok-true.ensures ∙ c.in-Ok-true.field-0-test)

pub returns-in-Ok-false : goal.returns-in-Ok-false
returns-in-Ok-false c = is_not_spelled c.args.text.now c.in_ok-line.line c.in_ok-line.ensures.only (sym c.in-Ok-false.ensures ∙ c.in-Ok-false.field-0-test)
