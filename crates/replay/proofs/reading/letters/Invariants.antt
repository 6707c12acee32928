use Rattle.std.proofs.Common.{◌≡◌, [], length}
use Rattle.replay.specs.Reading as spec
use Rattle.replay.proofs.reading.letters.Given as goal

abbrev pub invariant-loop-rest : goal.invariant-loop-rest
invariant-loop-rest l = spec.letters_from l.path l.rest ≡ spec.letters_from [] l.bytes

abbrev pub decreases-loop-rest : goal.decreases-loop-rest
decreases-loop-rest l = length l.rest
