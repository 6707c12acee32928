-- One step of a leaf on what it holds, and one turn of a leg.
use Rattle.std.specs.Prelude.{◌≡◌, ℕ, zero, suc, ◌+◌, ◌<◌, ◌≤◌, List, [], ◌∷◌, ◌++◌, map}
use Rattle.std.specs.Prelude.{Option, Some, None}
use Rattle.target_code.specs.declared.tree.Proc.{Proc}
use Rattle.target_meaning.specs.declared.answer.Reason.{Reason}
use Rattle.target_meaning.specs.declared.answer.Reason.TheVariants.{Index}
use Rattle.target_meaning.specs.declared.stack.Frames.{Frames}
use Rattle.target_meaning.specs.Leaf as leaf
use Rattle.target_meaning.specs.Piece.{Share, Nil, Some_of, Clash, Piece}
use Rattle.target_meaning.specs.Held.{stored, with_new, without, left_takes, right_takes}
use Rattle.branch_exec.specs.Leaves.{IsSized, PassesLimit}
use Rattle.target_meaning.specs.Turns.{TellsAll}
use Rattle.target_meaning.specs.declared.frame.Todo.TheVariants as todo
use Rattle.target_meaning.specs.declared.stack.Stack.{Stack}
use Rattle.target_meaning.specs.Stacks.{stack_of}
use Rattle.branch_exec.specs.Stores.{Kept, IsRefusedAt, sees, writes, frees}
use Rattle.branch_exec.specs.declared.store.Seen.TheVariants as seen
use Rattle.branch_exec.specs.declared.store.Written.TheVariants as written
use Rattle.branch_exec.specs.declared.store.Freed.TheVariants as freed
use Rattle.branch_exec.specs.declared.run.Turn.{Turn}
use Rattle.branch_exec.specs.declared.run.Turn.TheVariants as turn

-- one step of a leaf that holds this piece, with the blocks that it drew
abbrev pub Step : leaf.Act → Piece → List (ℕ × ℕ) → Piece → leaf.Stack → Type 0
Step (leaf.Go s) p xs q u = (xs ≡ []) × (q ≡ p) × (u ≡ s)
Step (leaf.Read b i k) p xs q u = (v : ℕ) × (sees p b i ≡ seen.Word v) × (xs ≡ []) × (q ≡ p) × (u ≡ k v)
Step (leaf.Write b i v s) p xs q u = (writes p b i ≡ written.Done) × (xs ≡ []) × (q ≡ stored p b i v) × (u ≡ s)
Step (leaf.Make n k) p xs q u = (x : ℕ) × (xs ≡ (x, n) ∷ []) × (q ≡ with_new p x n) × (u ≡ k x)
Step (leaf.Cut b s) p xs q u = (frees p b ≡ freed.Done) × (xs ≡ []) × (q ≡ without p b) × (u ≡ s)
Step (leaf.Split l r w) p xs q u = ⊥
Step leaf.Over p xs q u = ⊥
Step (leaf.Bad r) p xs q u = ⊥

-- why a leaf makes no step
abbrev pub StuckBy : leaf.Act → Piece → Reason → Type 0
StuckBy (leaf.Bad r) p reason = reason ≡ r
StuckBy (leaf.Read b i k) p reason = (reason ≡ Index) × (sees p b i ≡ seen.Outside)
StuckBy (leaf.Write b i v s) p reason = (reason ≡ Index) × (writes p b i ≡ written.Outside)
StuckBy (leaf.Go s) p reason = ⊥
StuckBy (leaf.Make n k) p reason = ⊥
StuckBy (leaf.Cut b s) p reason = ⊥
StuckBy (leaf.Split l r w) p reason = ⊥
StuckBy leaf.Over p reason = ⊥

-- the block and the offset that a leaf does not hold as it must
abbrev pub UnownedAt : leaf.Act → Piece → ℕ → ℕ → Type 0
UnownedAt (leaf.Read b i k) p block offset = (block ≡ b) × (offset ≡ i) × (sees p b i ≡ seen.Unowned)
UnownedAt (leaf.Write b i v s) p block offset = (block ≡ b) × (offset ≡ i) × (writes p b i ≡ written.Unowned)
UnownedAt (leaf.Cut b s) p block offset = (block ≡ b) × (offset ≡ 0) × (frees p b ≡ freed.Unowned)
UnownedAt (leaf.Go s) p block offset = ⊥
UnownedAt (leaf.Make n k) p block offset = ⊥
UnownedAt (leaf.Split l r w) p block offset = IsRefusedAt (left_takes l) (right_takes l r) p block offset
UnownedAt leaf.Over p block offset = ⊥
UnownedAt (leaf.Bad r) p block offset = ⊥

-- a claim that does not fit
abbrev pub WantsMore : leaf.Act → ℕ → Type 0
WantsMore (leaf.Make n k) len = len ≡ n
WantsMore (leaf.Go s) len = ⊥
WantsMore (leaf.Read b i k) len = ⊥
WantsMore (leaf.Write b i v s) len = ⊥
WantsMore (leaf.Cut b s) len = ⊥
WantsMore (leaf.Split l r w) len = ⊥
WantsMore leaf.Over len = ⊥
WantsMore (leaf.Bad r) len = ⊥

-- the pieces below the top, the list and the number walked go on
pub record GoesOn (s t : Kept) (xs : List (ℕ × ℕ)) (q : Piece) : Type 0 where
  pub below : t.below ≡ s.below
  pub top : t.top ≡ q
  pub drawn : t.drawn ≡ s.drawn ++ xs
  pub walked : s.walked ≤ t.walked
  pub cap : t.cap ≡ s.cap
  pub place : t.place ≡ s.place
  pub weight : t.weight ≡ s.weight

-- one turn of the loop
abbrev pub TurnIs : List Proc → Turn → leaf.Act → Kept → Kept → Stack → Stack → Type 0
TurnIs T turn.On a s t v u = (xs : List (ℕ × ℕ)) × (q : Piece) × Step a s.top xs q (stack_of T u) × GoesOn s t xs q
TurnIs T turn.Over a s t v u = (a ≡ leaf.Over) × (stack_of T u ≡ stack_of T v) × GoesOn s t [] s.top
TurnIs T (turn.Stuck reason) a s t v u = StuckBy a s.top reason × (stack_of T u ≡ stack_of T v) × GoesOn s t [] s.top
TurnIs T (turn.Unowned block offset) a s t v u = UnownedAt a s.top block offset × (stack_of T u ≡ stack_of T v) × GoesOn s t [] s.top
TurnIs T (turn.Full at len) a s t v u = WantsMore a len × (t.walked ≡ at) × (s.cap < at + 1 + len) × (stack_of T u ≡ stack_of T v) × GoesOn s t [] s.top
TurnIs T (turn.Fork left right) a s t v u = TellsAll T a (todo.Split left right) u × (stack_of T u ≡ stack_of T v) × GoesOn s t [] s.top
TurnIs T turn.Deep a s t v u = (a ≡ leaf.Go (stack_of T u)) × PassesLimit (stack_of T v) (stack_of T u) × GoesOn s t [] s.top
TurnIs T turn.Memory a s t v u = (stack_of T u ≡ stack_of T v) × GoesOn s t [] s.top

-- what is kept of the size of a leaf: a step that was made passed no limit, and at a fork the stack is as it was
abbrev pub Keeps : List Proc → Turn → Stack → Stack → ℕ → Type 0
Keeps T turn.On v u w = IsSized T u w × (PassesLimit (stack_of T v) (stack_of T u) → ⊥)
Keeps T (turn.Fork l r) v u w = IsSized T u w
Keeps T _ v u w = Unit {0}
