-- Each part of a tree has fewer items than the tree.
use Rattle.std.specs.Prelude.{◌≤◌, max, ◌∷◌, length}
use Rattle.std.proofs.Common.{arith, length-append}
use Rattle.sequences.specs.declared.sequence.Root.{Root}
use Rattle.sequences.specs.declared.sequence.Root.TheVariants.{Leaf, Fork}
use Rattle.sequences.specs.declared.sequence.Sequence.TheDeep.{deep-Root}
use Rattle.sequences.specs.Tree.{items_of}

-- no side is deeper than there are items
pub deep_le-length : {T : Type 0} → (n : Root T) → max (deep-Root T n) 0 ≤ length (items_of n)
deep_le-length Leaf = omega arith
deep_le-length (Fork rc) = omega (arith, length-append rc.value.left (rc.value.item ∷ rc.value.right))
