use Rattle.std.proofs.Common.{◌≡◌, IfOk, List, subst}
use Rattle.target_code.specs.declared.tree.Rep.{Rep}
use Rattle.target_meaning.specs.States.{state_of}
use Rattle.replay_causes.specs.declared.cause.Cause.{Cause}
use Rattle.sepref_replay.specs.Follows.{TellsEnd}
use Rattle.sepref_replay.proofs.Telling.{all_follow, at_procs, not_full}
use Rattle.sepref_replay.proofs.following.replay_values.Goals as goal

pub returns : goal.returns
returns c =
    let T = c.args.program.now in
    let us = c.args.values.now in
    let m = state_of T.procs c.in-Ok.state in
    let left = state_of T.procs c.replay.new.state in
    let end = c.in_ok-end.end in
    let begun = c.in-Ok.ensures.begun in
    all_follow T us c.args.steps.now c.args.cap m left end begun (c.in_ok-end.ensures.ok (not_full T us c.args.cap m begun)) c.told.result
    (subst (λ (outs : List Rep). IfOk c.told.result (λ t. TellsEnd outs left end t)) c.as_slice.ensures
    (at_procs (λ ps t. TellsEnd c.as_slice.result.now (state_of ps c.replay.new.state) end t) T.procs c.told.result c.told.ensures))
