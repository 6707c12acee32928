use Rattle.std.proofs.Common.{ℕ, ◌∙◌, ap, sym, subst, Err}
use Rattle.nres_core.specs.declared.place.Place.{Place}
use Rattle.nres_syntax.specs.Refusals.{ValuesRefusedAt}
use Rattle.replay.specs.Schedules.{RefusedAt}
use Rattle.replay_input.proofs.Parts.{none_read}
use Rattle.replay_input.proofs.reading.behind.Goals as goal

pub returns-in-Err-At-clause-err : goal.returns-in-Err-At-clause-err
returns-in-Err-At-clause-err c =
    let i = c.in-Err-At.is ∙ ap Err c.in-Err-At.field-0-is in
    let p = c.args.parts.now in (
      subst (λ (q : Place). ValuesRefusedAt p.values_line p.values.now q) (sym c.in-Err-At.place-is) (c.read_withs.ensures.at c.in-Err-At.place i),
      λ ws w. none_read _ c.in-Err-At.place ws i (c.read_withs.ensures.only ws w),
    )

pub returns-in-Err-Line-clause-err : goal.returns-in-Err-Line-clause-err
returns-in-Err-Line-clause-err c =
    let p = c.args.parts.now in
    let refused = c.read_schedule.ensures.line c.in-Err-Line.line (c.in-Err-Line.is ∙ ap Err c.in-Err-Line.field-0-is) in
    ((c.in-Ok.withs, c.in-Ok.ensures.ok), subst (λ (k : ℕ). RefusedAt p.schedule.now p.schedule_line k) (sym c.in-Err-Line.line-is) refused)

pub returns-in-Ok-read_schedule-clause-ok : goal.returns-in-Ok-read_schedule-clause-ok
returns-in-Ok-read_schedule-clause-ok c =
    let s = c.in-Ok-read_schedule.ensures.ok in
    record { withs = c.in-Ok.ensures.ok; steps = s.0; few = s.1; words = c.in-Ok-read_schedule.ensures.words }
