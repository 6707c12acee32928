-- What it means that a program is sound.
use Rattle.std.specs.Prelude.{◌≡◌, ℕ, true, List}
use Rattle.nres_core.specs.declared.flat.Flat.{Flat}
use Rattle.nres_core.specs.declared.tree.Spec.{Spec}
use Rattle.nres_core.specs.declared.value.Value.{Value}
use Rattle.target_code.specs.declared.tree.Program.{Program}
use Rattle.target_meaning.specs.declared.path.Side.{Side}
use Rattle.target_meaning.specs.Held.{holdings}
use Rattle.target_meaning.specs.Leaf.{Stack}
use Rattle.target_meaning.specs.LeftFirst.{has_ended}
use Rattle.target_meaning.specs.Machine.{Heap, Tree, Leaf, has_room, move}
use Rattle.target_meaning.specs.Piece.{Piece}
use Rattle.target_meaning.specs.Runs.{Schedule, reach, IsShallow, IsNoStuck, OnMoved, Race}
use Rattle.target_meaning.specs.Unowned.{SomeUnowned}
use Rattle.relations.specs.Values.{live}
use Rattle.soundness.specs.Behaviour.{Behaviour, of_spec, of_flat}
use Rattle.soundness.specs.Start.{Start}
use Rattle.soundness.specs.Good.{Good}

-- a state in which no leaf is stuck, no two leaves race, and none is unowned by what it holds
pub record Calm (T : Program) (t : Tree Piece) (h : Heap) : Type 0 where
  pub no_stuck : (path : List Side) (x : ℕ) → IsNoStuck (move holdings has_room T.procs t h path x)
  pub no_race : ¬ Race T.procs h t
  pub no_unowned : ¬ SomeUnowned T.procs 0 t

-- on all values on which nothing can fail, from every start with whatever capacity, every schedule under which no leaf ever lies below more
-- than 64 forks reaches a calm state, which is good where the root has ended; the root holds the live heap whole at first
abbrev pub IsSoundFor : Behaviour → Program → Type 0
IsSoundFor m T =
    (us : List Value) (s : Stack) (h : Heap) (start : Start T us s h) → ¬ m.can_fail us
    → (es : Schedule) → IsShallow holdings has_room T.procs es (Leaf (live h) s) h
    → OnMoved (reach holdings has_room T.procs es (Leaf (live h) s) h) (λ t g. Calm T t g × (has_ended t ≡ true → Good m T us start.pieces t g))

-- for a specification, as its text says
abbrev pub Sound : Spec → Program → Type 0
Sound p T = IsSoundFor (of_spec p) T

-- for a flat specification
abbrev pub FlatSound : Flat → Program → Type 0
FlatSound f T = IsSoundFor (of_flat f) T
