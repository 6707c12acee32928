-- What is known of each state that a run reaches.
use Rattle.std.specs.Prelude.{◌≡◌, ℕ, List}
use Rattle.target_code.specs.declared.tree.Proc.{Proc}
use Rattle.target_meaning.specs.declared.path.Side.{Side}
use Rattle.target_meaning.specs.Leaf.{Run, End}
use Rattle.target_meaning.specs.Machine.{Heap, Room, Tree, Leaf, Fork, move}
use Rattle.target_meaning.specs.Piece.{Piece, Holds}
use Rattle.target_meaning.specs.Held.{holdings, total, AllFine}
use Rattle.target_meaning.specs.Unowned.{SomeUnowned}
use Rattle.target_meaning.specs.Runs.{Race, IsNoStuck, bare}

-- a root that has ended meets its end with its results and what it holds
abbrev pub RootMeets : (List ℕ → Piece → Type 0) → Tree Piece → Type 0
RootMeets Q (Leaf p (Run f cs)) = Unit {0}
RootMeets Q (Leaf p (End vs)) = Q vs p
RootMeets Q (Fork p w l r) = Unit {0}

-- each leaf is fine and none is unowned, the heap has what is held, the end is met, no step is stuck, and there is no data race
pub record Good (room : Room) (T : List Proc) (Q : List ℕ → Piece → Type 0) (t : Tree Piece) (h : Heap) : Type 0 where
  pub fine : AllFine T 0 t
  pub owned : SomeUnowned T 0 t → ⊥
  pub holds : Holds (total t) h
  pub meets : RootMeets Q t
  pub free : (path : List Side) (x : ℕ) → IsNoStuck (move holdings room T t h path x)
  pub calm : Race T h t → ⊥

-- a state of the machine, which knows no pieces, is that of some tree with pieces for which this holds
abbrev pub IsReached : (Tree Piece → Heap → Type 0) → Tree (Unit {0}) → Heap → Type 0
IsReached P u h = (t : Tree Piece) × (bare t ≡ u) × P t h
