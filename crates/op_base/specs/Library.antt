-- What laws of procedures say of the library, and of one end.
use Rattle.std.specs.Prelude.{◌≡◌, ℕ, List, Some, codes}
use Rattle.target_code.specs.declared.tree.Proc.{Proc}
use Rattle.target_meaning.specs.Leaf.{find}
use Rattle.target_meaning.specs.Piece.{Piece}
use Rattle.triple_logic.specs.Copy.{lib_copy}
use Rattle.triple_logic.specs.Weakest.{End_fact, Ended}

-- `lib_copy` is among the procedures
abbrev pub HasCopy : List Proc → Type 0
HasCopy T = find T (codes "lib_copy") ≡ Some lib_copy

-- one end: these blocks may still be claimed, these results, this piece
abbrev pub Gives : List ℕ → List ℕ → Piece → End_fact
Gives claims results piece = Ended (Unit {0}) (λ o. claims) (λ o. results) (λ o. piece)
