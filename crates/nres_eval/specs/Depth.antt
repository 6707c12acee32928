-- How deep the blocks of procedures nest.
use Rattle.std.specs.Prelude.{ℕ, max, List, [], ◌∷◌}
use Rattle.nres_core.specs.declared.tree.Block.{size-Block}
use Rattle.nres_core.specs.declared.tree.Fun.{Fun}

-- as deep as the deepest of them
abbrev pub deepest : List Fun → ℕ
deepest [] = 0
deepest (f ∷ fs) = max (size-Block f.body) (deepest fs)
