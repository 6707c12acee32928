-- Code that is proved by the laws of runs alone.
use Rattle.std.specs.Prelude.{◌≡◌, ℕ, List, [], ◌∷◌, codes}
use Rattle.target_code.specs.declared.tree.Instr.TheVariants.{Mov}
use Rattle.target_code.specs.declared.tree.Proc.{Proc}
use Rattle.target_meaning.specs.Leaf.{Item, Do}
use Rattle.target_meaning.specs.Piece.{Piece}

-- copies the register 0 into the register 1
abbrev pub doubling : Proc
doubling = record { name = codes "main"; args = 1; regs = 2; code = record { list = Mov 1 0 ∷ [] }; ret = 0 ∷ 1 ∷ [] }

-- its code
abbrev pub items : List Item
items = Do 1 (Mov 1 0) ∷ []

-- the registers are equal, and the piece is as it was
abbrev pub BothHave : ℕ → Piece → List ℕ → Piece → Type 0
BothHave x p regs q = (regs ≡ x ∷ x ∷ []) × (q ≡ p)
