-- The start of a program on values, and the start on their images.
use Rattle.std.specs.Prelude.{◌≡◌, ℕ, ◌+◌, ◌^◌, ◌<◌, ◌≤◌, List, [], ◌∷◌, ◌++◌, length, drop, slice_index, option_to_list, Some, codes}
use Rattle.std.specs.List.{zip}
use Rattle.nres_core.specs.declared.value.Value.{Value}
use Rattle.target_code.specs.declared.tree.InParam.{InParam}
use Rattle.target_code.specs.declared.tree.Proc.{Proc}
use Rattle.target_code.specs.declared.tree.Program.{Program}
use Rattle.target_code.specs.declared.tree.Rep.{Rep}
use Rattle.target_meaning.specs.Leaf.{Stack, Run, begin, find}
use Rattle.target_meaning.specs.Machine.{Heap, no_blocks, with_blocks}
use Rattle.target_meaning.specs.Piece.{Piece}
use Rattle.relations.specs.Images.{Image, image, placed}
use Rattle.relations.specs.Values.{AllRepresent, IsUnion}

-- the representations of inputs
abbrev pub reps_of : List InParam → List Rep
reps_of [] = []
reps_of (i ∷ is) = i.rep ∷ reps_of is

-- no block has this name
abbrev pub IsNew : ℕ → List (ℕ × List ℕ) → Type 0
IsNew x [] = Unit {0}
IsNew x (b ∷ bs) = (b.0 ≡ x → ⊥) × IsNew x bs

-- the names of blocks lie in 1 to the capacity, and no two are the same
abbrev pub AreNamed : ℕ → List (ℕ × List ℕ) → Type 0
AreNamed cap [] = Unit {0}
AreNamed cap (b ∷ bs) = (1 ≤ b.0) × (b.0 ≤ cap) × IsNew b.0 bs × AreNamed cap bs

-- the start on these values: the tree is one leaf with this stack, which is at the beginning of `main`
pub record Start (T : Program) (us : List Value) (s : Stack) (h : Heap) : Type 0 where
  pub main : Proc
  pub regs : List ℕ
  pub pieces : List Piece
  pub blocks : List (ℕ × List ℕ)
  -- the argument registers are those of the inputs in order, the others are 0
  pub is_main : find T.procs (codes "main") ≡ Some main
  pub beginning : s ≡ Run (begin main regs) []
  -- registers and pieces represent the values in any lawful layout
  pub inputs : AllRepresent (reps_of T.ins) us regs pieces
  -- the live heap is the disjoint union of the pieces
  pub all_live : IsUnion pieces h
  -- nothing else was ever made
  pub made : h ≡ with_blocks (no_blocks h.cap) blocks
  pub named : AreNamed h.cap blocks
  pub capacity : h.cap < 2 ^ 64
  pub room : h.claimed ≤ h.cap

-- ---- the start on images

-- these are the images of the values in the representations
abbrev pub AreImages : List Rep → List Value → List Image → Type 0
AreImages [] [] [] = Unit {0}
AreImages (r ∷ rs) (x ∷ xs) (i ∷ is) = (image r x ≡ Some i) × AreImages rs xs is
AreImages _ _ _ = ⊥

-- the blocks of images, in order
abbrev pub blocks_in : List Image → List (List ℕ)
blocks_in [] = []
blocks_in (i ∷ is) = option_to_list i.block ++ blocks_in is

-- the registers of images, whose blocks have these names in order; an image without a block takes no name
abbrev pub all_placed : List ℕ → List Image → List ℕ
all_placed names [] = []
all_placed names (i ∷ is) = placed (slice_index names 0) i ++ all_placed (drop (length (option_to_list i.block)) names) is

-- a start in which the values lie as their images, and the blocks have these names, in order
pub record Begin (T : Program) (us : List Value) (cap : ℕ) (names : List ℕ) (s : Stack) (h : Heap) : Type 0 where
  pub start : Start T us s h
  pub images : List Image
  pub are_images : AreImages (reps_of T.ins) us images
  pub one_each : length names ≡ length (blocks_in images)
  pub registers : start.regs ≡ all_placed names images
  pub blocks : start.blocks ≡ zip names (blocks_in images)
  pub capacity : h.cap ≡ cap

-- names for blocks, of which this is the first; each next one is the last name + its block's length + 1
abbrev pub names_from : ℕ → List (List ℕ) → List ℕ
names_from b [] = []
names_from b (ws ∷ blocks) = b ∷ names_from (b + length ws + 1) blocks

-- the begin whose names go up from 1
pub record BeginFromOne (T : Program) (us : List Value) (cap : ℕ) (s : Stack) (h : Heap) : Type 0 where
  pub names : List ℕ
  pub begin : Begin T us cap names s h
  pub same : names ≡ names_from 1 (blocks_in begin.images)
