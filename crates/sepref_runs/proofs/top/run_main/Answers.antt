use Rattle.std.proofs.Common.{rules, inr}
use Rattle.sepref_runs.specs.Runs.{Wrote}
use Rattle.sepref_runs.proofs.Tops.{no_memory, no_write_due, told_unless, wrote}
use Rattle.sepref_runs.proofs.top.run_main.Goals as goal

pub returns-in-Ok-clause-wrote : goal.returns-in-Ok-clause-wrote
returns-in-Ok-clause-wrote g c =
    wrote c.args.line _ _ _ _ _ _ _ c.in-Ok.ensures.due c.write_told.ensures.status c.write_told.ensures.whole c.write_told.ensures.front

pub returns-in-Ok-clause-write_fault : goal.returns-in-Ok-clause-write_fault
returns-in-Ok-clause-write_fault g c = λ e. c.write_told.ensures.fault e (no_write_due c.args.line c.in-Ok.ensures.due)

pub returns-in-Ok-clause-unwritten : goal.returns-in-Ok-clause-unwritten
returns-in-Ok-clause-unwritten g c = λ e.
    absurd (no_memory c.args.line _ _ _ _ _ _ _ c.in-Ok.ensures.due c.write_told.ensures.status c.write_told.ensures.whole c.write_told.ensures.front e)

pub returns-in-Err-clause-wrote : goal.returns-in-Err-clause-wrote
returns-in-Err-clause-wrote g c = Wrote.nothing (search rules)

pub returns-in-Ok-clause-told : goal.returns-in-Ok-clause-told
returns-in-Ok-clause-told g c = λ text e m k.
    let gave = c.in-Ok.ensures.gave in
    told_unless c.an_input_has_one_cause.ensures c.args.line k _ _ text e gave.0 gave.1.0 m _ _ _ c.write_told.ensures.status gave.1.1.1 c.in-Ok.ensures.due

pub returns-in-Err-clause-told : goal.returns-in-Err-clause-told
returns-in-Err-clause-told g c = λ text e m k d h. inr tt
