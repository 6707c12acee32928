-- Where a step can be made, and that it was made.
use Rattle.std.specs.Prelude.{◌≡◌, true, List, [], ◌∷◌}
use Rattle.target_meaning.specs.declared.path.Side.{Side}
use Rattle.target_meaning.specs.declared.path.Side.TheVariants.{Left, Right}
use Rattle.target_meaning.specs.Leaf.{Run, End}
use Rattle.target_meaning.specs.LeftFirst.{has_ended}
use Rattle.target_meaning.specs.Machine.{Heap, Tree, Leaf, Fork, Answer, Moved, Stuck, Full, NoSuchLeaf, NameUsed, no_blocks, with_blocks}

-- at a path stands a leaf that has not ended, or a fork whose children have both ended
abbrev pub CanStep : {A : Type 0} → Tree A → List Side → Type 0
CanStep (Leaf a (Run f cs)) [] = Unit {0}
CanStep (Leaf a (End vs)) [] = ⊥
CanStep (Leaf a s) (d ∷ ds) = ⊥
CanStep (Fork a w l r) [] = (has_ended l ≡ true) × (has_ended r ≡ true)
CanStep (Fork a w l r) (Left ∷ ds) = CanStep l ds
CanStep (Fork a w l r) (Right ∷ ds) = CanStep r ds

-- a step was made and led to this tree, or an `alloc` did not fit
abbrev pub IsMade : {A : Type 0} → Tree A → Answer A → Type 0
IsMade u (Moved t h) = t ≡ u
IsMade u (Stuck r) = ⊥
IsMade u Full = Unit {0}
IsMade u NoSuchLeaf = ⊥
IsMade u NameUsed = ⊥

-- a heap of 16 words whose one block, an empty one, has a name that is past the capacity
abbrev pub name_past : Heap
name_past = with_blocks (no_blocks 16) ((17, []) ∷ [])
