-- A good end.
use Rattle.std.specs.Prelude.{◌≡◌, ℕ, List, [], ◌∷◌, ◌++◌, if◌then◌else◌}
use Rattle.nres_core.specs.declared.value.Value.{Value}
use Rattle.target_code.specs.declared.tree.InParam.{InParam}
use Rattle.target_code.specs.declared.tree.Program.{Program}
use Rattle.target_meaning.specs.Leaf.{End}
use Rattle.target_meaning.specs.Machine.{Heap, Tree, Leaf}
use Rattle.target_meaning.specs.Piece.{Piece}
use Rattle.relations.specs.Values.{AllRepresent, IsUnion}
use Rattle.soundness.specs.Behaviour.{Behaviour}

-- of the pieces of the inputs those of kept ones
abbrev pub kept_pieces : List InParam → List Piece → List Piece
kept_pieces [] ps = []
kept_pieces (i ∷ is) [] = []
kept_pieces (i ∷ is) (p ∷ ps) = if i.kept then p ∷ kept_pieces is ps else kept_pieces is ps

-- the end on values whose pieces were these at the start, where this is asked
pub record Good {A : Type 0} (m : Behaviour) (T : Program) (us : List Value) (pieces : List Piece) (t : Tree A) (h : Heap) : Type 0 where
  pub note : A
  pub regs : List ℕ
  pub results : List Value
  pub outs : List Piece
  -- the root has ended with these registers
  pub ended : t ≡ Leaf note (End regs)
  -- the results are allowed
  pub allowed : m.allows us results
  -- registers and pieces represent them
  pub related : AllRepresent T.outs results regs outs
  -- the live heap is the disjoint union of the results' pieces and those that kept inputs had at the start: every other block was freed
  pub all_live : IsUnion (outs ++ kept_pieces T.ins pieces) h
