use Rattle.std.proofs.Common.{◌≡◌, subst, suc, drop, length, arith}
use Rattle.std.specs.Prelude.{None, Some, false}
use Rattle.std.proofs.lemmas.Result.{IfOk-weaker}
use Rattle.target_meaning.specs.States.{state_of}
use Rattle.replay.specs.Told.{steps_of, Replays}
use Rattle.replay.specs.Turns.{Turns, IsLast, Follows}
use Rattle.replay.proofs.Following.{follow_more, follow_some, follow_last, at_step, no_step}
use Rattle.replay.proofs.follow.replay.Goals as goal

pub returns-in-Some-clause-ok : goal.returns-in-Some-clause-ok
returns-in-Some-clause-ok c full =
    let T = c.args.program.now.procs in
    let es = steps_of c.args.schedule.now in
    let m = c.index-schedule-made.result in
    let k = c.loop-made.made in
    let now = state_of T c.loop-made.state in
    let left = state_of T c.turn.new.state in
    let follows = c.loop-made.invariant full in
    let turns : Turns T k (m.path, m.name) now left (Some c.in-Some.end) = subst (λ o. Turns T k (m.path, m.name) now left o) c.in-Some.is c.in_ok-end.ensures.ok in
    follow_some T es (drop (suc k) es) (m.path, m.name) (state_of T c.args.state.now) now left k c.in-Some.end follows
    (at_step c.args.schedule.now k m c.loop-made-test.true c.index-schedule-made.is) (turns follows.room)

pub loop-made-preserved : goal.loop-made-preserved
loop-made-preserved c full =
    let T = c.args.program.now.procs in
    let es = steps_of c.args.schedule.now in
    let m = c.index-schedule-made.result in
    let k = c.loop-made.made in
    let now = state_of T c.loop-made.state in
    let left = state_of T c.turn.new.state in
    let follows = c.loop-made.invariant full in
    let turns : Turns T k (m.path, m.name) now left None = subst (λ o. Turns T k (m.path, m.name) now left o) c.in_default.is c.in_ok-end.ensures.ok in
    follow_more T es (drop (suc k) es) (m.path, m.name) (state_of T c.args.state.now) now left k follows
    (at_step c.args.schedule.now k m c.loop-made-test.true c.index-schedule-made.is) (turns follows.room)

pub returns-clause-ok : goal.returns-clause-ok
returns-clause-ok c =
    let T = c.args.program.now.procs in
    let es = steps_of c.args.schedule.now in
    let n = length c.args.schedule.now in
    let s = state_of T c.args.state.now in
    let now = state_of T c.loop-made.state in
    IfOk-weaker c.last.result (λ end. IsLast T n now end) (λ end. s.full ≡ false → Replays T es s end now)
    (λ end last full.
    let at : c.loop-made.made ≡ n = omega arith in
    follow_last T es s now n end (subst (λ k. Follows T es s k now) at (c.loop-made.invariant full)) (no_step c.args.schedule.now n (omega arith)) last)
    c.last.ensures
