-- A program that reads two elements of one array, which it lends to both branches of a `par`.
use Rattle.std.specs.Prelude.{◌≡◌, ℕ, suc, ◌+◌, ◌<◌, List, [], ◌∷◌, length, codes, slice_index, false}
use Rattle.std.specs.Prelude.{Some}
use Rattle.target_code.specs.declared.tree.Instr.TheVariants.{Par}
use Rattle.target_code.specs.declared.tree.Branch.{Branch}
use Rattle.target_code.specs.declared.tree.Hand.{Hand}
use Rattle.target_code.specs.declared.tree.Proc.{Proc}
use Rattle.target_meaning.specs.Leaf.{Stack, Run, begin}
use Rattle.target_meaning.specs.Machine.{Heap, Leaf, Room, IsSized, nothing}
use Rattle.target_meaning.specs.Piece.{Piece, Holds}
use Rattle.target_meaning.specs.Held.{CanHalve}
use Rattle.target_meaning.specs.Samples.{array_get}
use Rattle.target_meaning.specs.Runs.{Schedule, OnMoved, reach, IsShallow, Race}
use Rattle.triple_logic.specs.Safe.{at_end, Safe}
use Rattle.triple_logic.specs.Sample.{array_set, IsSlice}

-- the words of the array, by the registers of its block, offset and length
abbrev pub words : List Hand
words = record { block = 0; span = Some (1, 2) } ∷ []

-- a branch that gets the element at the index in a register
abbrev pub reader : (to index : ℕ) → Branch
reader to index = record { to = to ∷ []; proc = codes "array_get"; args = 0 ∷ 1 ∷ 2 ∷ index ∷ []; hands = []; lends = words }

-- both elements, side by side; the arguments are block, offset and length of the array, and two indices
abbrev pub two_readers : Proc
two_readers = record {
  name = codes "main";
  args = 5;
  regs = 7;
  code = record { list = Par (reader 5 3) (reader 6 4) ∷ [] };
  ret = 5 ∷ 6 ∷ [];
}

-- the program
abbrev pub program : List Proc
program = two_readers ∷ array_get ∷ []

-- the begin of the program
abbrev pub start : (xs : List ℕ) (b off i j : ℕ) → Stack
start xs b off i j = Run (begin two_readers (b ∷ off ∷ length xs ∷ i ∷ j ∷ [])) []

-- the same with a writer in place of the left reader: it sets the element at the first index to the second index
abbrev pub writer : Branch
writer = record { to = 0 ∷ 1 ∷ 2 ∷ []; proc = codes "array_set"; args = 0 ∷ 1 ∷ 2 ∷ 3 ∷ 4 ∷ []; hands = []; lends = words }

abbrev pub writer_and_reader : Proc
writer_and_reader = record {
  name = codes "main";
  args = 5;
  regs = 7;
  code = record { list = Par writer (reader 6 4) ∷ [] };
  ret = 6 ∷ [];
}

abbrev pub spoiling : List Proc
spoiling = writer_and_reader ∷ array_set ∷ array_get ∷ []

abbrev pub spoiling_start : (xs : List ℕ) (b off i j : ℕ) → Stack
spoiling_start xs b off i j = Run (begin writer_and_reader (b ∷ off ∷ length xs ∷ i ∷ j ∷ [])) []

-- what the program is run on: an array with both indices, of each word of which half can be lent
pub record Given (xs : List ℕ) (b off i j : ℕ) (p : Piece) : Type 0 where
  pub first : i < length xs
  pub second : j < length xs
  pub slice : IsSlice xs b off p
  pub lends : (m : ℕ) → m < length xs → CanHalve false (p b (suc (off + m)))

-- both elements are given, and the array is held as before
abbrev pub BothRead : (xs : List ℕ) (i j : ℕ) → Piece → List ℕ → Piece → Type 0
BothRead xs i j p vs q = (vs ≡ slice_index xs i ∷ slice_index xs j ∷ []) × (q ≡ p)

-- it is safe for every number of steps
abbrev pub ReadersLaw : Type 0
ReadersLaw =
    (n : ℕ) (xs : List ℕ) (b off i j : ℕ) (p : Piece) → Given xs b off i j p →
    Safe program at_end (BothRead xs i j p) n 0 (Leaf p (start xs b off i j))

-- no schedule of the machine reaches a race, from any heap that has the array
abbrev pub ReadersAreCalm : Type 0
ReadersAreCalm =
    (room : Room) → IsSized room → (es : Schedule) (h : Heap) (xs : List ℕ) (b off i j : ℕ) (p : Piece) → Given xs b off i j p → Holds p h →
    IsShallow nothing room program es (Leaf tt (start xs b off i j)) h →
    OnMoved (reach nothing room program es (Leaf tt (start xs b off i j)) h) (λ t g. Race program g t → ⊥)
