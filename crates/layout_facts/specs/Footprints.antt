-- What a representation has of a heap: nothing, a whole block, or a range of a block; and the part of a heap that its registers name.
use Rattle.std.specs.Prelude.{◌≡◌, ℕ, true, false, List, [], ◌∷◌, length, Option, Some, None}
use Rattle.nres_core.specs.declared.value.Value.{Value}
use Rattle.target_code.specs.Formed.{is_container}
use Rattle.target_code.specs.Reps.{width}
use Rattle.target_code.specs.declared.tree.Rep.{Rep}
use Rattle.target_code.specs.declared.tree.Rep.TheVariants as rep
use Rattle.target_meaning.specs.Leaf.{Part}
use Rattle.target_meaning.specs.Piece.{Piece}
use Rattle.relations.specs.Blocks.{Contents, nothing, block, range, Has, Exactly}
use Rattle.relations.specs.Represents.{Represents}

-- nothing, a block of these words with its name, or these words of a block from an offset on
pub data Footprint : Type 0 where
  Empty : Footprint
  Block_of : (b : ℕ) (ws : List ℕ) → Footprint
  Range_of : (b off : ℕ) (ws : List ℕ) → Footprint

-- what stands there
abbrev pub contents : Footprint → Contents
contents Empty = nothing
contents (Block_of b ws) = block b ws
contents (Range_of b off ws) = range b off ws

-- the part of a heap that it fills; nothing fills the empty span
abbrev pub footprint_part : Footprint → Part
footprint_part Empty = record { block = 0; span = Some (0, 0) }
footprint_part (Block_of b ws) = record { block = b; span = None }
footprint_part (Range_of b off ws) = record { block = b; span = Some (off, length ws) }

-- the first of the registers, which names a container's block
abbrev pub first_word : List ℕ → ℕ
first_word [] = 0
first_word (w ∷ ws) = w

-- the span in its block that a slice has; other containers have the whole block
abbrev pub span_in : Rep → List ℕ → Option (ℕ × ℕ)
span_in rep.Slice (b ∷ off ∷ len ∷ []) = Some (off, len)
span_in _ _ = None

-- the part that the registers of a container name
abbrev pub part_of : Rep → List ℕ → Part
part_of r regs = record { block = first_word regs; span = span_in r regs }

-- what registers and a piece that represent a value have of the heap: the piece has exactly the contents of a footprint; there are as many registers as the
-- representation has, and those of a container name the part that it fills; a number or a truth value fills nothing
pub record HasFootprint (r : Rep) (x : Value) (regs : List ℕ) (p : Piece) : Type 0 where
  pub footprint : Footprint
  pub exact : Exactly (contents footprint) p
  pub wide : length regs ≡ width r
  pub part : is_container r ≡ true → part_of r regs ≡ footprint_part footprint
  pub bare : is_container r ≡ false → footprint ≡ Empty
  -- any piece with these contents represents the value as well
  pub again : (q : Piece) → Exactly (contents footprint) q → Represents r x regs q

-- a piece has what another has, each place with some share
abbrev pub Keeps : Piece → Piece → Type 0
Keeps p q = (b j : ℕ) (o : Option ℕ) → Has (p b j) o → Has (q b j) o

-- a piece is the block of these words that the first of the registers names
pub record OneBlock (regs : List ℕ) (p : Piece) : Type 0 where
  pub words : List ℕ
  pub exact : Exactly (block (first_word regs) words) p
