use Rattle.std.proofs.Common.{◌≡◌, ◌++◌, take, map}
use Rattle.replay.specs.Schedules.{letter}
use Rattle.replay.proofs.schedule.push_path.Given as goal

abbrev pub invariant-each : goal.invariant-each
invariant-each l = l.out.items ≡ l.initial.out.items ++ map letter (take l.side-index l.path)
