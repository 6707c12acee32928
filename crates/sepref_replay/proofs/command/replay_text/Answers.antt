use Rattle.sepref_replay.proofs.Causing.{ready, told_given, told_only, told_unread}
use Rattle.sepref_replay.proofs.command.replay_text.Goals as goal

pub given-requires-clause-held : goal.given-requires-clause-held
given-requires-clause-held c =
    let input = c.in-Ok.input in
    ready c.args.text.now c.args.cap input.program input.withs input.steps.items c.in-Ok.ensures.ok c.requires.short

pub returns-in-Ok-clause-cause : goal.returns-in-Ok-clause-cause
returns-in-Ok-clause-cause c =
    let input = c.in-Ok.input in
    told_given c.args.text.now c.args.cap input.program input.withs input.steps.items c.in-Ok.ensures.ok c.given.result c.given.ensures

pub returns-in-Err-clause-cause : goal.returns-in-Err-clause-cause
returns-in-Err-clause-cause c = told_unread c.args.text.now c.args.cap c.in-Err.unread c.in-Err.ensures.err c.unread_cause.result c.unread_cause.ensures

pub returns-in-Ok-clause-only : goal.returns-in-Ok-clause-only
returns-in-Ok-clause-only c = λ d h.
    let input = c.in-Ok.input in
    told_only c.an_input_has_one_cause.ensures c.args.text.now c.args.cap c.given.result (told_given c.args.text.now c.args.cap input.program input.withs input.steps.items c.in-Ok.ensures.ok c.given.result c.given.ensures) d h

pub returns-in-Err-clause-only : goal.returns-in-Err-clause-only
returns-in-Err-clause-only c = λ d h.
    told_only c.an_input_has_one_cause.ensures c.args.text.now c.args.cap c.unread_cause.result (told_unread c.args.text.now c.args.cap c.in-Err.unread c.in-Err.ensures.err c.unread_cause.result c.unread_cause.ensures) d h
