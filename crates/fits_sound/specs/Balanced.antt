-- Procedures that give as many slices as they take over.
use Rattle.std.specs.Prelude.{◌≡◌, List, [], ◌∷◌}
use Rattle.nres_core.specs.FlatTree.{FlatProc}
use Rattle.nres_rules.specs.FlatTyped.{slices_given, slices_taken}

-- each procedure gives as many slices as it takes over
abbrev pub AreBalanced : List FlatProc → Type 0
AreBalanced [] = Unit {0}
AreBalanced (p ∷ ps) = (slices_taken p.params ≡ slices_given p.shown) × AreBalanced ps
