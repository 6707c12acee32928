-- Laws of starts, ends and shapes, as facts.
use Rattle.std.specs.Prelude.{◌≡◌, ℕ, Bool, true, List, [], ◌∷◌, ◌++◌, Some, codes}
use Rattle.nres_core.specs.Samples.{first_tree}
use Rattle.nres_core.specs.declared.value.Value.{Value}
use Rattle.nres_core.specs.declared.value.Value.TheVariants as v
use Rattle.target_code.specs.declared.tree.Proc.{Proc}
use Rattle.target_code.specs.declared.tree.Program.{Program}
use Rattle.target_meaning.specs.Leaf.{End, find}
use Rattle.target_meaning.specs.Machine.{Never, Freed, Heap, Tree, Leaf, no_blocks, with_blocks}
use Rattle.target_meaning.specs.Piece.{Nil, Piece, none}
use Rattle.target_meaning.specs.Held.{IsHeld}
use Rattle.target_meaning.specs.Runs.{IsLive}
use Rattle.target_meaning.specs.Samples.{reading, reading_heap, start}
use Rattle.relations.specs.Blocks.{block, whole_piece}
use Rattle.relations.specs.Samples.{set_of}
use Rattle.relations.specs.Values.{union}
use Rattle.soundness.specs.Behaviour.{Behaviour, Refines, of_spec}
use Rattle.soundness.specs.Bound.{IsBoundedFor}
use Rattle.soundness.specs.Good.{Good, kept_pieces}
use Rattle.soundness.specs.Nodes.{Nodes, End_node, If_node, SpecTree, CodeTree}
use Rattle.soundness.specs.Samples.{first_flat, first_program, array_get, two_gets, two_flat, two_program, one_by_one, get_or_not, two_choices, gives_three, get_node, no_choice, one_load, endless_program, size_program, gone_heap}
use Rattle.nres_core.specs.FlatTree.{FlatWhole}
use Rattle.soundness.specs.Shape.{Made, Shape, any_side}
use Rattle.soundness.specs.SafeEnds.{IsSafe, IsSafeFrom, IsBounded, IsBoundedFrom}
use Rattle.soundness.specs.Sound.{IsSoundFor}
use Rattle.soundness.specs.Start.{Start, Begin, BeginFromOne, names_from}

abbrev pub FirstHasShape : Type 0
FirstHasShape = Shape (array_get ∷ []) first_flat first_program

abbrev pub ParHasShape : Type 0
ParHasShape = Shape (array_get ∷ []) two_flat two_program

abbrev pub SequenceIsNoPar : Type 0
SequenceIsNoPar =
    (procs : List Proc) (own : ℕ) (ns : Nodes) (bs : List (List ℕ))
    → SpecTree any_side two_gets ns → CodeTree procs own one_by_one ns bs → ⊥

-- a program that has one side of each `either` has the shape
abbrev pub MadeHasShape : Type 0
MadeHasShape = (side : List ℕ → Bool) (library : List Proc) (f : FlatWhole) (T : Program) → Made side library f T → Shape library f T

-- a choice with nothing in it is a node; an `either` has the tree of one of its sides, of the one that is taken where that is given, also where two stand at one
-- place; a load has no tree
pub record NodesSeen : Type 0 where
  pub choice : CodeTree [] 0 no_choice (If_node End_node End_node End_node) []
  pub left : SpecTree any_side get_or_not get_node
  pub right : SpecTree any_side get_or_not End_node
  pub taken : (ns : Nodes) → SpecTree (λ to left. true ≡ left) get_or_not ns → ns ≡ get_node
  pub each : SpecTree (λ to left. gives_three to ≡ left) two_choices get_node
  pub each_alone : (ns : Nodes) → SpecTree (λ to left. gives_three to ≡ left) two_choices ns → ns ≡ get_node
  pub load : (procs : List Proc) (own : ℕ) (ns : Nodes) (bs : List (List ℕ)) → ¬ CodeTree procs own one_load ns bs

abbrev pub FirstStarts : Type 0
FirstStarts = Start first_program (v.List (7 ∷ 8 ∷ []) ∷ []) (start reading (1 ∷ 0 ∷ 2 ∷ [])) reading_heap

abbrev pub GoneStarts : Type 0
GoneStarts = Start size_program (v.Set (set_of (0 ∷ 16 ∷ [])) ∷ []) (start size_program.procs (5 ∷ 8 ∷ 2 ∷ 3 ∷ [])) gone_heap

abbrev pub LiveBlocksAreClaimed : Behaviour → Type 0
LiveBlocksAreClaimed m =
    (T : Program) (us : List Value) (ps : List Piece) (t : Tree Piece) (h : Heap) (good : Good m T us ps t h) (b : ℕ)
    → IsLive (h.cells b) → IsHeld (union (good.outs ++ kept_pieces T.ins ps) b 0)

-- a block that was made and of which no result or kept input holds the name was freed
abbrev pub OthersAreFreed : Behaviour → Type 0
OthersAreFreed m =
    (T : Program) (us : List Value) (ps : List Piece) (t : Tree Piece) (h : Heap) (good : Good m T us ps t h) (b : ℕ)
    → union (good.outs ++ kept_pieces T.ins ps) b 0 ≡ Nil → ¬ (h.cells b ≡ Never) → h.cells b ≡ Freed

-- the list 1, 2 in block 1, and nothing else; `first` has ended with 1
abbrev pub FirstEndsWell : Type 0
FirstEndsWell =
    Good (of_spec first_tree) first_program (v.List (1 ∷ 2 ∷ []) ∷ []) (whole_piece (block 1 (1 ∷ 2 ∷ [])) ∷ []) (Leaf none (End (1 ∷ [])))
    (with_blocks (no_blocks 16) ((1, 1 ∷ 2 ∷ []) ∷ []))

-- the list of `first` in block 1, and another block 2
abbrev pub ExtraBlockIsNotGood : Behaviour → Type 0
ExtraBlockIsNotGood m =
    (t : Tree Piece)
    → Good m first_program (v.List (7 ∷ 8 ∷ []) ∷ []) (whole_piece (block 1 (7 ∷ 8 ∷ [])) ∷ []) t
    (with_blocks (no_blocks 16) ((1, 7 ∷ 8 ∷ []) ∷ (2, 0 ∷ []) ∷ [])) → ⊥

-- the list 7, 8 in block 1
abbrev pub FirstBegins : Type 0
FirstBegins = BeginFromOne first_program (v.List (7 ∷ 8 ∷ []) ∷ []) 16 (start reading (1 ∷ 0 ∷ 2 ∷ [])) reading_heap

-- the same in block 5
abbrev pub OtherNameBegins : Type 0
OtherNameBegins =
    Begin first_program (v.List (7 ∷ 8 ∷ []) ∷ []) 16 (5 ∷ []) (start reading (5 ∷ 0 ∷ 2 ∷ [])) (with_blocks (no_blocks 16) ((5, 7 ∷ 8 ∷ []) ∷ []))

abbrev pub NamesSeen : Type 0
NamesSeen = names_from 1 ((7 ∷ 8 ∷ []) ∷ [] ∷ (9 ∷ []) ∷ []) ≡ 1 ∷ 4 ∷ 5 ∷ []

-- no image has more used states than full ones
abbrev pub GoneIsNoBegin : Type 0
GoneIsNoBegin =
    (cap : ℕ) (names : List ℕ)
    → Begin size_program (v.Set (set_of (0 ∷ 16 ∷ [])) ∷ []) cap names (start size_program.procs (5 ∷ 8 ∷ 2 ∷ 3 ∷ [])) gone_heap → ⊥

-- a program that is safe with a good end is sound
abbrev pub SafeIsSound : Behaviour → Type 0
SafeIsSound m = (T : Program) → IsSafe m T → IsSoundFor m T

-- a program that is safe so from the beginning of its `main` is safe so from each start
abbrev pub SafeFromMain : Behaviour → Type 0
SafeFromMain m = (T : Program) (main : Proc) → find T.procs (codes "main") ≡ Some main → IsSafeFrom main m T → IsSafe m T

-- a program that has a bound with a good end by what is held has a bound on its runs
abbrev pub BoundedEnds : Behaviour → Type 0
BoundedEnds m = (T : Program) → IsBounded m T → IsBoundedFor m T

abbrev pub BoundedFromMain : Behaviour → Type 0
BoundedFromMain m = (T : Program) (main : Proc) → find T.procs (codes "main") ≡ Some main → IsBoundedFrom main m T → IsBounded m T

-- calls without an end have no bound
abbrev pub EndlessHasNoBound : Behaviour → Type 0
EndlessHasNoBound m = (n : ℕ) → m.ends n (v.List (7 ∷ 8 ∷ []) ∷ []) → IsBoundedFor m endless_program → ⊥

-- a program that does what asks no less does what is asked
abbrev pub SoundCarried : Behaviour → Behaviour → Type 0
SoundCarried m k = (T : Program) → Refines T m k → IsSoundFor m T → IsSoundFor k T

abbrev pub BoundsCarried : Behaviour → Behaviour → Type 0
BoundsCarried m k = (T : Program) → Refines T m k → IsBoundedFor m T → IsBoundedFor k T
