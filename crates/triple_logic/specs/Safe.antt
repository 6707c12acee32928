-- Safety of a tree of leaves, each with what it holds, for a number of steps.
use Rattle.std.specs.Prelude.{ℕ, zero, suc, ◌+◌, ◌≤◌, List, [], ◌∷◌}
use Rattle.std.specs.Prelude.{Option, Some, None}
use Rattle.target_code.specs.declared.tree.Proc.{Proc}
use Rattle.target_meaning.specs.declared.path.Side.{Side}
use Rattle.target_meaning.specs.Leaf.{Item, Stack, Run, End, Caller, act}
use Rattle.target_meaning.specs.Machine.{Heap, Tree, Leaf, Fork, Room, move, depth}
use Rattle.target_meaning.specs.Runs.{OnMoved}
use Rattle.target_meaning.specs.Piece.{Piece, Holds}
use Rattle.target_meaning.specs.Held.{holdings, total, Fine, AllFine}

-- where a root is over, and with which results
abbrev pub Halt : Type 0
Halt = Stack → Option (List ℕ)

-- at the end of a leaf, with its results
abbrev pub at_end : Halt
at_end (Run f cs) = None
at_end (End vs) = Some vs

-- nothing is left of a stretch of code, and no call waits for its end
abbrev pub no_more : List Item → List ℕ → List Caller → Option (List ℕ)
no_more [] regs [] = Some regs
no_more [] regs (c ∷ cs) = None
no_more (i ∷ is) regs cs = None

-- at the end of a stretch of code, with all of its registers
abbrev pub at_code_end : Halt
at_code_end (Run f cs) = no_more f.items f.regs cs
at_code_end (End vs) = Some vs

-- each step that the tree can make from a heap, with the capacity tested or not, leads to a state that is so, if no leaf then lies below more than 64 forks
abbrev pub Steps : List Proc → ℕ → Tree Piece → Heap → (Tree Piece → Type 0) → Type 0
Steps T f t h next = (room : Room) (path : List Side) (x : ℕ) → OnMoved (move holdings room T t h path x) (λ u k. f + depth u ≤ 64 → next u)

-- the end is met where the root is over, and else it can go on
abbrev pub AtRoot : Option (List ℕ) → (List ℕ → Type 0) → Type 0 → Type 0
AtRoot (Some vs) met go = met vs
AtRoot None met go = go

-- a tree below f forks is safe for n steps: from each heap that has what it holds no leaf is stuck or unowned, and where the root is over its end is met; before each step the rest of the heap may become any other
unfoldable pub Safe : List Proc → Halt → (List ℕ → Piece → Type 0) → ℕ → ℕ → Tree Piece → Type 0
Safe T halt Q zero f t = Unit {0}
Safe T halt Q (suc n) f (Leaf p s) =
    (h : Heap) → Holds p h → AtRoot (halt s) (λ vs. Q vs p) (Fine f (act T s) p × Steps T f (Leaf p s) h (Safe T halt Q n f))
Safe T halt Q (suc n) f (Fork p w l r) =
    (h : Heap) → Holds (total (Fork p w l r)) h → AllFine T f (Fork p w l r) × Steps T f (Fork p w l r) h (Safe T halt Q n f)
