use Rattle.std.proofs.Common.{◌≡◌, ◌+◌, ◌≤◌, drop}
use Rattle.target_meaning.specs.Machine as machine
use Rattle.target_meaning.specs.Memories.{heap_of}
use Rattle.target_meaning.proofs.memory.Memory.with_blocks.Given as goal

abbrev pub invariant-loop-block : goal.invariant-loop-block
invariant-loop-block l =
    (machine.with_blocks (heap_of l.memory) (drop l.block-index l.blocks) ≡ machine.with_blocks (machine.no_blocks l.cap) l.blocks) ×
    (l.memory.claimed + machine.claims (drop l.block-index l.blocks) ≤ l.cap)
