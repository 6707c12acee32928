-- A state of the machine, its beginning and its step.
use Rattle.std.specs.Prelude.{ℕ, Bool, true, false, List, []}
use Rattle.std.specs.Prelude.{Option, Some, None}
use Rattle.target_code.specs.declared.tree.Proc.{Proc}
use Rattle.target_meaning.specs.declared.path.Side.{Side}
use Rattle.target_meaning.specs.declared.state.State.{State}
use Rattle.target_meaning.specs.declared.answer.StepAnswer.{StepAnswer}
use Rattle.target_meaning.specs.declared.answer.StepAnswer.TheVariants as told
use Rattle.target_meaning.specs.Leaf as leaf
use Rattle.target_meaning.specs.Machine as machine
use Rattle.target_meaning.specs.LeftFirst.{has_ended}
use Rattle.target_meaning.specs.Memories.{heap_of}
use Rattle.target_meaning.specs.Stacks.{proc_at}
use Rattle.target_meaning.specs.Trees.{tree_of}

-- the machine as a whole: the fork tree, the heap, and whether an `alloc` did not fit, so that the machine is full
pub record MachineState : Type 0 where
  pub tree : machine.Tree (Unit {0})
  pub heap : machine.Heap
  pub full : Bool

-- what a state shows, for the procedures of its program
abbrev pub state_of : List Proc → State → MachineState
state_of procs s = record { tree = tree_of procs s.tree; heap = heap_of s.memory; full = s.full }

-- the results of the root, once it has ended
abbrev pub root_results : machine.Tree (Unit {0}) → Option (List ℕ)
root_results (machine.Leaf a (leaf.End vs)) = Some vs
root_results (machine.Leaf a (leaf.Run f cs)) = None
root_results (machine.Fork a w l r) = None

-- the beginning: one leaf at the first instruction of `main` with these arguments, the other registers 0, and a heap of these blocks
abbrev pub first_state : List Proc → List ℕ → List (ℕ × List ℕ) → ℕ → MachineState
first_state procs regs blocks cap = record {
  tree = machine.Leaf tt (leaf.Run (leaf.begin (proc_at procs 0) regs) []);
  heap = machine.with_blocks (machine.no_blocks cap) blocks;
  full = false;
}

-- what a step answers, and the state after it: only a step that was made changes tree and heap, and one that does not fit makes the machine full
abbrev pub by_answer : machine.Answer (Unit {0}) → MachineState → StepAnswer × MachineState
by_answer (machine.Moved t h) s = (told.Moved, record { tree = t; heap = h; full = false })
by_answer (machine.Stuck r) s = (told.Stuck r, s)
by_answer machine.Full s = (told.Full, record { tree = s.tree; heap = s.heap; full = true })
by_answer machine.NoSuchLeaf s = (told.NoSuchLeaf, s)
by_answer machine.NameUsed s = (told.NameUsed, s)

-- a step, by whether the machine is full and whether its root has ended
abbrev pub step_by : Bool → Bool → List Proc → MachineState → List Side → ℕ → StepAnswer × MachineState
step_by true ended procs s path name = (told.Full, s)
step_by false true procs s path name = (told.Ended, s)
step_by false false procs s path name = by_answer (machine.move machine.nothing machine.has_room procs s.tree s.heap path name) s

-- the machine's answer to a step at a path with a name, and the state after it; a full machine and an ended root stay as they are
abbrev pub step_of : List Proc → MachineState → List Side → ℕ → StepAnswer × MachineState
step_of procs s path name = step_by s.full (has_ended s.tree) procs s path name
