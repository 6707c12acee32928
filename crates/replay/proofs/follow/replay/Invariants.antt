use Rattle.std.proofs.Common.{◌≡◌, false}
use Rattle.replay.specs.Told.{steps_of}
use Rattle.replay.specs.Turns.{Follows}
use Rattle.target_meaning.specs.States.{state_of}
use Rattle.replay.proofs.follow.replay.Given as goal

abbrev pub invariant-loop-made : goal.invariant-loop-made
invariant-loop-made l =
    (state_of l.program.procs l.initial.state).full ≡ false → Follows l.program.procs (steps_of l.schedule) (state_of l.program.procs l.initial.state) l.made (state_of l.program.procs l.state)
