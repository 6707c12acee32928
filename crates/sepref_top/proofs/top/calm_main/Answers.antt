use Rattle.std.proofs.Common.{arith}
use Rattle.sepref_top.specs.declared.status.Status.TheVariants as status
use Rattle.sepref_top.specs.declared.words.Command.TheVariants as command
use Rattle.sepref_top.proofs.Told as told
use Rattle.sepref_top.proofs.Tops as tops
use Rattle.sepref_top.proofs.top.calm_main.Goals as goal

pub returns-in-Ok-clause-usage : goal.returns-in-Ok-clause-usage
returns-in-Ok-clause-usage g c = λ e. tops.no_usage _ _ _ _ _ _ c.in-Ok.ensures.due c.write_answer.ensures.status e

pub returns-in-Ok-clause-wrote : goal.returns-in-Ok-clause-wrote
returns-in-Ok-clause-wrote g c =
    tops.wrote _ _ _ _ _ _ c.in-Ok.ensures.due c.write_answer.ensures.status _ _ c.write_answer.ensures.whole c.write_answer.ensures.front

pub returns-in-Ok-clause-tells : goal.returns-in-Ok-clause-tells
returns-in-Ok-clause-tells g c = λ l h a.
    tops.went _ _ _ _ _ _ c.in-Ok.ensures.due c.write_answer.ensures.status _ _ c.write_answer.ensures.whole c.write_answer.ensures.front l a h

pub returns-in-Ok-clause-sound : goal.returns-in-Ok-clause-sound
returns-in-Ok-clause-sound g c = λ l a k e.
    tops.done _ _ _ _ _ _ c.in-Ok.ensures.due c.write_answer.ensures.status _ _ c.write_answer.ensures.whole c.write_answer.ensures.front l a command.Synth k e

pub returns-in-Ok-clause-canonical : goal.returns-in-Ok-clause-canonical
returns-in-Ok-clause-canonical g c = λ l a k e.
    tops.done _ _ _ _ _ _ c.in-Ok.ensures.due c.write_answer.ensures.status _ _ c.write_answer.ensures.whole c.write_answer.ensures.front l a command.Check k e

pub returns-in-Ok-clause-evaluated : goal.returns-in-Ok-clause-evaluated
returns-in-Ok-clause-evaluated g c = λ l a k e.
    tops.done _ _ _ _ _ _ c.in-Ok.ensures.due c.write_answer.ensures.status _ _ c.write_answer.ensures.whole c.write_answer.ensures.front l a command.Eval k e

pub returns-in-Ok-clause-verified : goal.returns-in-Ok-clause-verified
returns-in-Ok-clause-verified g c = λ l a k e.
    tops.done _ _ _ _ _ _ c.in-Ok.ensures.due c.write_answer.ensures.status _ _ c.write_answer.ensures.whole c.write_answer.ensures.front l a command.Verify k e

pub returns-in-Ok-clause-told : goal.returns-in-Ok-clause-told
returns-in-Ok-clause-told g c = λ text l e m a.
    let gave = c.in-Ok.ensures.gave in
    tops.told_due l _ _ _ text e _ a _ _ c.write_answer.ensures.status
    (λ f. omega (arith, m, told.gave_at_most _ _ _ text e gave.1.0, gave.1.1.1 f)) c.in-Ok.ensures.due

pub returns-in-Ok-clause-unwritten : goal.returns-in-Ok-clause-unwritten
returns-in-Ok-clause-unwritten g c = λ e. absurd (tops.no_memory _ _ _ _ _ _ c.in-Ok.ensures.due c.write_answer.ensures.status e)

pub returns-in-Ok-clause-read_fault : goal.returns-in-Ok-clause-read_fault
returns-in-Ok-clause-read_fault g c = λ e. c.in-Ok.ensures.fault (tops.was_fault _ _ _ _ _ _ c.in-Ok.ensures.due c.write_answer.ensures.status e)

pub returns-in-Ok-clause-write_fault : goal.returns-in-Ok-clause-write_fault
returns-in-Ok-clause-write_fault g c = λ e. c.write_answer.ensures.fault e (tops.not_fault _ _ _ _ _ _ c.in-Ok.ensures.due c.write_answer.ensures.status)

pub returns-in-Err-clause-told : goal.returns-in-Err-clause-told
returns-in-Err-clause-told g c = λ text l e m a. told.failed_by l text status.Memory tt
