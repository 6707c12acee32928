use Rattle.std.proofs.Common.{◌≡◌}
use Rattle.target_meaning.specs.Place.{items_at}
use Rattle.target_meaning.proofs.Levels.{weight}
use Rattle.target_meaning.proofs.settle.settle.Given as goal

abbrev pub invariant-loop-instr : goal.invariant-loop-instr
invariant-loop-instr l = items_at 1 l.code l.outer l.index ≡ items_at 1 l.code l.initial.outer l.initial.index

abbrev pub decreases-loop-instr : goal.decreases-loop-instr
decreases-loop-instr l = weight l.outer
