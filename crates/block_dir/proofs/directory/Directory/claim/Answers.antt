use Rattle.std.proofs.Common.{subst}
use Rattle.block_dir.specs.declared.view.View.{View}
use Rattle.block_dir.specs.Calls.{view}
use Rattle.block_dir.specs.Rule.{Wins}
use Rattle.block_dir.proofs.directory.Directory.claim.Goals as goal

pub returns-then-attempt-clause-step : goal.returns-then-attempt-clause-step
returns-then-attempt-clause-step c = subst (λ (v : View). Wins v (view c.attempt.new.seat) c.loop-seat.seat.position c.args.len) c.loop-seat.invariant.walk (c.attempt.ensures.step c.if-attempt.true)
