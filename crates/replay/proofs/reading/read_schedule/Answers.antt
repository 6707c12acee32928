use Rattle.std.proofs.Common.{arith}
use Rattle.replay.proofs.StepTexts.{took_none, took_more}
use Rattle.replay.proofs.reading.read_schedule.Goals as goal

pub loop-rest-init : goal.loop-rest-init
loop-rest-init c = took_none c.args.bytes.now c.new-steps.result.items c.new-steps.ensures.items

pub loop-rest-preserved : goal.loop-rest-preserved
loop-rest-preserved c =
    let found = rw c.in-Ok-Some.field-0-is at c.in-Ok-Some.ensures.some in
    took_more c.args.bytes.now c.loop-rest.rest.now c.in-Ok-Some.after.now c.loop-rest.steps.items c.add.new.steps.items c.in-Ok-Some.step c.loop-rest.invariant found.0 found.1 (omega arith) c.in_ok-add-in-Ok-Some.ensures.ok

pub returns-clause-words : goal.returns-clause-words
returns-clause-words c = c.loop-rest.invariant.words
