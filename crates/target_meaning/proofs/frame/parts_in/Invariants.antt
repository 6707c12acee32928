use Rattle.std.proofs.Common.{◌≡◌, ◌++◌, map, drop}
use Rattle.target_meaning.specs.Leaf as leaf
use Rattle.target_meaning.specs.Turns.{part_of}
use Rattle.target_meaning.proofs.frame.parts_in.Given as goal

abbrev pub invariant-loop-hand : goal.invariant-loop-hand
invariant-loop-hand l = leaf.parts_of l.hands l.registers ≡ map part_of l.parts.items ++ leaf.parts_of (drop l.hand-index l.hands) l.registers
