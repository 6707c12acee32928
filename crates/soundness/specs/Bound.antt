-- What it means that the runs of a program are bounded.
use Rattle.std.specs.Prelude.{◌≡◌, ℕ, ◌≤◌, ◌⊎◌, List, length}
use Rattle.nres_core.specs.declared.value.Value.{Value}
use Rattle.target_code.specs.declared.tree.Program.{Program}
use Rattle.target_meaning.specs.declared.path.Side.{Side}
use Rattle.target_meaning.specs.Held.{holdings}
use Rattle.target_meaning.specs.Leaf.{Stack}
use Rattle.target_meaning.specs.Machine.{Heap, Tree, Leaf, Full, has_room, move}
use Rattle.target_meaning.specs.Piece.{Piece}
use Rattle.target_meaning.specs.Runs.{Schedule, reach, IsShallow, HasMoved, OnMoved}
use Rattle.relations.specs.Values.{live}
use Rattle.soundness.specs.Behaviour.{Behaviour}
use Rattle.soundness.specs.Good.{Good}
use Rattle.soundness.specs.Start.{Start}

-- no step is made, at whatever path and with whatever name
abbrev pub IsAtRest : Program → Tree Piece → Heap → Type 0
IsAtRest T t h = (path : List Side) (x : ℕ) → ¬ HasMoved (move holdings has_room T.procs t h path x) (λ u g. Unit {0})

-- a leaf is next to claim more than the capacity has left
abbrev pub IsFull : Program → Tree Piece → Heap → Type 0
IsFull T t h = (path : List Side) × (x : ℕ) × (move holdings has_room T.procs t h path x ≡ Full)

-- on all values on which each path ends, every start, of whatever capacity, has a bound: no schedule under which no leaf ever lies below more than 64 forks
-- is longer, and a state that it reaches and from which no step is made is good or full; the root holds the live heap whole at first
abbrev pub IsBoundedFor : Behaviour → Program → Type 0
IsBoundedFor m T =
    (n : ℕ) (us : List Value) (s : Stack) (h : Heap) (start : Start T us s h) → m.ends n us
    → (bound : ℕ) × ((es : Schedule) → IsShallow holdings has_room T.procs es (Leaf (live h) s) h
    → OnMoved (reach holdings has_room T.procs es (Leaf (live h) s) h) (λ t g. (length es ≤ bound) × (IsAtRest T t g → (Good m T us start.pieces t g ⊎ IsFull T t g))))
