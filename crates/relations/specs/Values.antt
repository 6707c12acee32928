-- Several values in registers, each with its piece, and the union of pieces.
use Rattle.std.specs.Prelude.{◌≡◌, ℕ, List, [], ◌∷◌, take, drop}
use Rattle.nres_core.specs.declared.value.Value.{Value}
use Rattle.target_code.specs.Reps.{width}
use Rattle.target_code.specs.declared.tree.Rep.{Rep}
use Rattle.target_meaning.specs.Machine.{Heap}
use Rattle.target_meaning.specs.Piece.{Piece, none, plus, AreDisjoint, at_place}
use Rattle.relations.specs.Blocks.{Contents, whole_piece}
use Rattle.relations.specs.Represents.{Represents}

-- registers represent these values one after the other, each with a piece of its own
abbrev pub AllRepresent : List Rep → List Value → List ℕ → List Piece → Type 0
AllRepresent [] [] regs [] = regs ≡ []
AllRepresent (r ∷ rs) (x ∷ xs) regs (p ∷ ps) = Represents r x (take (width r) regs) p × AllRepresent rs xs (drop (width r) regs) ps
AllRepresent _ _ regs _ = ⊥

-- the union of pieces
abbrev pub union : List Piece → Piece
union [] = none
union (p ∷ ps) = plus p (union ps)

-- no two of these pieces share a word or a name
abbrev pub AreApart : List Piece → Type 0
AreApart [] = Unit {0}
AreApart (p ∷ ps) = AreDisjoint p (union ps) × AreApart ps

-- what is live in a heap, with its names
abbrev pub live_contents : Heap → Contents
live_contents h b j = at_place (h.cells b) j

-- the live heap, held whole
abbrev pub live : Heap → Piece
live h = whole_piece (live_contents h)

-- the live heap is the disjoint union of these pieces: they are whole, they are apart, and nothing else is live
pub record IsUnion (ps : List Piece) (h : Heap) : Type 0 where
  pub apart : AreApart ps
  pub all : (b j : ℕ) → union ps b j ≡ live h b j
