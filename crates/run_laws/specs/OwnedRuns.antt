-- What holds in each state of a run, and runs in which no leaf is ever stuck or unowned.
use Rattle.std.specs.Prelude.{ℕ, List, [], ◌∷◌}
use Rattle.target_code.specs.declared.tree.Proc.{Proc}
use Rattle.target_meaning.specs.declared.path.Side.{Side}
use Rattle.target_meaning.specs.Machine.{Heap, Tree, Notes, Room, move}
use Rattle.target_meaning.specs.Piece.{Piece, Holds}
use Rattle.target_meaning.specs.Held.{holdings, total, AllFine}
use Rattle.target_meaning.specs.Unowned.{SomeUnowned}
use Rattle.target_meaning.specs.Runs.{Schedule, OnMoved, Race, IsNoStuck}

-- each state of the run of a schedule is so, the first and the last among them; after a step that is not made there is none
abbrev pub Along : {A : Type 0} → Notes A → Room → List Proc → (Tree A → Heap → Type 0) → Schedule → Tree A → Heap → Type 0
Along N room T P [] t h = P t h
Along N room T P (e ∷ es) t h = P t h × OnMoved (move N room T t h e.0 e.1) (λ u g. Along N room T P es u g)

-- no leaf is stuck, so that no step is, and none is unowned; a leaf below 64 forks that is next to `par` is not called unowned
pub record IsOwned (room : Room) (T : List Proc) (t : Tree Piece) (h : Heap) : Type 0 where
  pub free : (path : List Side) (x : ℕ) → IsNoStuck (move holdings room T t h path x)
  pub owned : SomeUnowned T 0 t → ⊥

-- the heap has what is held, each leaf is fine, and there is no data race
pub record IsCalm (T : List Proc) (t : Tree Piece) (h : Heap) : Type 0 where
  pub holds : Holds (total t) h
  pub fine : AllFine T 0 t
  pub calm : Race T h t → ⊥
