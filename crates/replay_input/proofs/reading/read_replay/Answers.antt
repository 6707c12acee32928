use Rattle.std.proofs.Common.{◌∙◌, List, ℕ, ap, Err, sym, subst}
use Rattle.replay_lines.specs.Inputs.{program_part}
use Rattle.target_text.specs.Refusals.{RefusedAt}
use Rattle.replay_input.proofs.Parts.{is_replay, is_unread}
use Rattle.replay_input.proofs.reading.read_replay.Goals as goal

pub returns-in-Err-Line-clause-err : goal.returns-in-Err-Line-clause-err
returns-in-Err-Line-clause-err c =
    let refused = c.read_program.ensures.line c.in-Err-Line.refused (c.in-Err-Line.is ∙ ap Err c.in-Err-Line.field-0-is) in
    subst (λ (k : ℕ). RefusedAt (program_part c.args.text.now) k) (sym c.in-Err-Line.refused-is) (subst (λ (l : List ℕ). RefusedAt l c.in-Err-Line.refused) c.cut-parts.ensures.program refused)

pub returns-in-Ok-behind-clause-ok : goal.returns-in-Ok-behind-clause-ok
returns-in-Ok-behind-clause-ok c =
    let p = c.cut-parts.result in
    let t = c.in-Ok.ensures.ok in
    is_replay c.args.text.now p.program.now p.values.now p.schedule.now p.values_line p.schedule_line
    (record { program_is = c.cut-parts.ensures.program; values_are = c.cut-parts.ensures.values; schedule_is = c.cut-parts.ensures.schedule; line_is = c.cut-parts.ensures.values_line; first_is = c.cut-parts.ensures.schedule_line })
    c.in-Ok.program t.0 t.1 c.in-Ok-behind.withs c.in-Ok-behind.steps.items c.in-Ok-behind.ensures.ok

pub returns-in-Err-clause-err : goal.returns-in-Err-clause-err
returns-in-Err-clause-err c =
    let p = c.cut-parts.result in
    let t = c.in-Ok.ensures.ok in
    is_unread c.args.text.now p.program.now p.values.now p.schedule.now p.values_line p.schedule_line
    (record { program_is = c.cut-parts.ensures.program; values_are = c.cut-parts.ensures.values; schedule_is = c.cut-parts.ensures.schedule; line_is = c.cut-parts.ensures.values_line; first_is = c.cut-parts.ensures.schedule_line })
    c.in-Ok.program t.0 t.1 c.in-Err.unread c.in-Err.ensures.err
