-- The heap as the code keeps it, and the tree.
use Rattle.std.specs.Prelude.{ℕ, List}
use Rattle.std.specs.Prelude.{Option, Some, None, Result, Ok, Err}
use Rattle.std.specs.Ordering.{nat_cmp}
use Rattle.std.specs.BTreeMap.{get}
use Rattle.target_meaning.specs.declared.answer.Reason.{Reason}
use Rattle.target_meaning.specs.declared.memory.Memory.{Memory}
use Rattle.target_meaning.specs.declared.memory.Claimed.{Claimed}
use Rattle.target_meaning.specs.declared.memory.Claimed.TheVariants.{Made, NoRoom, Used}
use Rattle.target_meaning.specs.Leaf as leaf
use Rattle.target_meaning.specs.Machine.{Cell, Never, Live, Freed, Heap, Leaf, Answer, Moved, Stuck, Full, NameUsed}

-- what is kept for a name
abbrev pub cell_of : Option (Option (List ℕ)) → Cell
cell_of None = Never
cell_of (Some None) = Freed
cell_of (Some (Some ws)) = Live ws

-- the heap that the code keeps
abbrev pub heap_of : Memory → Heap
heap_of m = record { cells = λ b. cell_of (get nat_cmp m.blocks b); claimed = m.claimed; cap = m.cap }

-- the machine's answer to a step of a leaf, by what the heap answered
abbrev pub by_word : Result ℕ Reason → (ℕ → leaf.Stack) → Heap → Answer (Unit {0})
by_word (Ok v) k h = Moved (Leaf tt (k v)) h
by_word (Err r) k h = Stuck r

-- the same of a store or a `free`
abbrev pub by_done : Result (Unit {0}) Reason → leaf.Stack → Heap → Answer (Unit {0})
by_done (Ok v) s h = Moved (Leaf tt s) h
by_done (Err r) s h = Stuck r

-- the same of an `alloc`
abbrev pub by_claim : Claimed → leaf.Stack → Heap → Answer (Unit {0})
by_claim Made s h = Moved (Leaf tt s) h
by_claim NoRoom s h = Full
by_claim Used s h = NameUsed
