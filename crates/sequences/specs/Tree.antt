-- What a tree of items is seen as.
use Rattle.std.specs.Prelude.{◌≡◌, ◌+◌, List, [], ◌∷◌, ◌++◌, length}
use Rattle.sequences.specs.declared.sequence.Root.{Root}
use Rattle.sequences.specs.declared.sequence.Root.TheVariants.{Leaf, Fork}

-- the items in order
abbrev pub items_of : {T : Type 0} → Root T → List T
items_of Leaf = []
items_of (Fork rc) = rc.value.left ++ rc.value.item ∷ rc.value.right

-- the length that a fork stores is right
abbrev pub IsSized : {T : Type 0} → Root T → Type 0
IsSized Leaf = Unit {0}
IsSized (Fork rc) = rc.value.len ≡ length rc.value.left + 1 + length rc.value.right
