-- A program that sets an element of each of two pieces of arrays, side by side.
use Rattle.std.specs.Prelude.{◌≡◌, ◌≢◌, ◌⊎◌, ℕ, ◌+◌, ◌<◌, ◌≤◌, List, [], ◌∷◌, length, codes, slice_set}
use Rattle.std.specs.Prelude.{Some}
use Rattle.target_code.specs.declared.tree.Instr.TheVariants.{Par}
use Rattle.target_code.specs.declared.tree.Branch.{Branch}
use Rattle.target_code.specs.declared.tree.Proc.{Proc}
use Rattle.target_meaning.specs.Leaf.{Stack, Run, begin}
use Rattle.target_meaning.specs.Machine.{Heap, Leaf, Room, IsSized, nothing}
use Rattle.target_meaning.specs.Piece.{Piece, plus, Holds}
use Rattle.target_meaning.specs.Runs.{Schedule, OnMoved, reach, IsShallow, Race}
use Rattle.triple_logic.specs.Safe.{at_end, Safe}
use Rattle.triple_logic.specs.Sample.{array_set, IsSlice, IsOwned}

-- the left branch is handed the words of the first
abbrev pub left_branch : Branch
left_branch = record { to = 0 ∷ 1 ∷ 2 ∷ []; proc = codes "array_set"; args = 0 ∷ 1 ∷ 2 ∷ 6 ∷ 7 ∷ []; hands = record { block = 0; span = Some (1, 2) } ∷ []; lends = [] }

-- the right branch is handed the words of the second
abbrev pub right_branch : Branch
right_branch = record { to = 3 ∷ 4 ∷ 5 ∷ []; proc = codes "array_set"; args = 3 ∷ 4 ∷ 5 ∷ 6 ∷ 7 ∷ []; hands = record { block = 3; span = Some (4, 5) } ∷ []; lends = [] }

-- both, side by side
abbrev pub pair : Proc
pair = record {
  name = codes "main";
  args = 8;
  regs = 8;
  code = record { list = Par left_branch right_branch ∷ [] };
  ret = 0 ∷ 1 ∷ 2 ∷ 3 ∷ 4 ∷ 5 ∷ [];
}

-- the program
abbrev pub program : List Proc
program = pair ∷ array_set ∷ []

-- its registers at first: block, offset and length of each, the index and the new element
abbrev pub registers : (xs ys : List ℕ) (b off c from i v : ℕ) → List ℕ
registers xs ys b off c from i v = b ∷ off ∷ length xs ∷ c ∷ from ∷ length ys ∷ i ∷ v ∷ []

-- the begin of the program
abbrev pub start : (xs ys : List ℕ) (b off c from i v : ℕ) → Stack
start xs ys b off c from i v = Run (begin pair (registers xs ys b off c from i v)) []

-- the two have no word in common: they are of two blocks, or the second is behind the first in one block, as two halves are
abbrev pub AreTwo : List ℕ → ℕ → ℕ → ℕ → ℕ → Type 0
AreTwo xs b off c from = (b ≢ c) ⊎ (off + length xs ≤ from)

-- what the program is run on
pub record Given (xs ys : List ℕ) (b off c from i : ℕ) (p q : Piece) : Type 0 where
  pub two : AreTwo xs b off c from
  pub in_first : i < length xs
  pub in_second : i < length ys
  pub first : IsSlice xs b off p
  pub owned : IsOwned xs b off p
  pub second : IsSlice ys c from q
  pub owned_too : IsOwned ys c from q

-- both elements are set
abbrev pub BothSet : (xs ys : List ℕ) (b off c from i v : ℕ) → List ℕ → Piece → Type 0
BothSet xs ys b off c from i v vs r =
    (vs ≡ b ∷ off ∷ length xs ∷ c ∷ from ∷ length ys ∷ []) ×
    ((p' : Piece) × (q' : Piece) × (r ≡ plus p' q') × IsSlice (slice_set xs i v) b off p' × IsSlice (slice_set ys i v) c from q')

-- it is safe for every number of steps, and both are set
abbrev pub PairLaw : Type 0
PairLaw =
    (n : ℕ) (xs ys : List ℕ) (b off c from i v : ℕ) (p q : Piece) → Given xs ys b off c from i p q →
    Safe program at_end (BothSet xs ys b off c from i v) n 0 (Leaf (plus p q) (start xs ys b off c from i v))

-- no schedule of the machine reaches a race, from any heap that has the two
abbrev pub CalmLaw : Type 0
CalmLaw =
    (room : Room) → IsSized room → (es : Schedule) (h : Heap) (xs ys : List ℕ) (b off c from i v : ℕ) (p q : Piece) → Given xs ys b off c from i p q → Holds (plus p q) h →
    IsShallow nothing room program es (Leaf tt (start xs ys b off c from i v)) h →
    OnMoved (reach nothing room program es (Leaf tt (start xs ys b off c from i v)) h) (λ t g. Race program g t → ⊥)
