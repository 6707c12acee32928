-- Procedures of arrays and slices, and what they do.
use Rattle.std.specs.Prelude.{ℕ, ◌+◌, ◌*◌, ◌<◌, ◌≤◌, List, [], ◌∷◌, length, replicate, codes, slice_index, slice_set}
use Rattle.target_code.specs.declared.tree.Calc.TheVariants.{Add}
use Rattle.target_code.specs.declared.tree.Proc.{Proc}
use Rattle.target_meaning.specs.Piece.{Piece}
use Rattle.triple_logic.specs.Blocks.{range, Reads}
use Rattle.triple_logic.specs.Copy.{Makes}
use Rattle.triple_logic.specs.Text.{Text, Stop, Op, Load, Store, Alloc, Call, proc_of}
use Rattle.triple_logic.specs.Weakest.{Does}
use Rattle.op_base.specs.Library.{HasCopy, Gives}

-- ---- n zeros

abbrev pub zeros_text : Text
zeros_text = Alloc 1 0 Stop

abbrev pub array_zeros : Proc
array_zeros = proc_of (codes "array_zeros") 1 3 zeros_text (1 ∷ 2 ∷ 0 ∷ [])

abbrev pub ZerosLaw : Type 0
ZerosLaw =
    (T : List Proc) (n w : ℕ) (a : List ℕ) (k : Piece) → n ≤ w
    → Does T array_zeros (Makes (λ x. x ∷ 0 ∷ n ∷ []) (replicate n 0) k a) 2 (w ∷ a) (n ∷ []) k

-- ---- an element of words that are read

abbrev pub get_text : Text
get_text = Op 4 Add 1 3 (Load 5 0 4 Stop)

abbrev pub array_get : Proc
array_get = proc_of (codes "array_get") 4 6 get_text (5 ∷ [])

abbrev pub GetLaw : Type 0
GetLaw =
    (T : List Proc) (b off i : ℕ) (a xs : List ℕ) (k : Piece) → i < length xs → Reads b off xs k
    → Does T array_get (Gives a (slice_index xs i ∷ []) k) 3 a (b ∷ off ∷ length xs ∷ i ∷ []) k

-- ---- elements of a range

abbrev pub set_text : Text
set_text = Op 5 Add 1 3 (Store 0 5 4 Stop)

abbrev pub array_set : Proc
array_set = proc_of (codes "array_set") 5 6 set_text (0 ∷ 1 ∷ 2 ∷ [])

abbrev pub SetLaw : Type 0
SetLaw =
    (T : List Proc) (b off i v : ℕ) (a xs : List ℕ) → i < length xs
    → Does T array_set (Gives a (b ∷ off ∷ length xs ∷ []) (range b off (slice_set xs i v))) 3 a (b ∷ off ∷ length xs ∷ i ∷ v ∷ []) (range b off xs)

abbrev pub swap_text : Text
swap_text = Op 5 Add 1 3 (Op 6 Add 1 4 (Load 7 0 5 (Load 8 0 6 (Store 0 5 8 (Store 0 6 7 Stop)))))

abbrev pub array_swap : Proc
array_swap = proc_of (codes "array_swap") 5 9 swap_text (0 ∷ 1 ∷ 2 ∷ [])

-- two elements exchanged
abbrev pub swapped : List ℕ → ℕ → ℕ → List ℕ
swapped xs i j = slice_set (slice_set xs i (slice_index xs j)) j (slice_index xs i)

abbrev pub SwapLaw : Type 0
SwapLaw =
    (T : List Proc) (b off i j : ℕ) (a xs : List ℕ) → i < length xs → j < length xs
    → Does T array_swap (Gives a (b ∷ off ∷ length xs ∷ []) (range b off (swapped xs i j))) 7 a (b ∷ off ∷ length xs ∷ i ∷ j ∷ []) (range b off xs)

-- ---- the same words in a new block

abbrev pub copy_text : Text
copy_text = Call (3 ∷ []) (codes "lib_copy") (0 ∷ 1 ∷ 2 ∷ 2 ∷ []) Stop

abbrev pub array_copy : Proc
array_copy = proc_of (codes "array_copy") 3 5 copy_text (3 ∷ 4 ∷ 2 ∷ [])

abbrev pub CopyLaw : Type 0
CopyLaw =
    (T : List Proc) (b off w : ℕ) (a xs : List ℕ) (k : Piece) → HasCopy T → Reads b off xs k → length xs ≤ w
    → Does T array_copy (Makes (λ x. x ∷ 0 ∷ length xs ∷ []) xs k a) (6 * length xs + 8) (w ∷ a) (b ∷ off ∷ length xs ∷ []) k

-- on a part of what is held, the rest stays as it was
pub record ArrayLaws : Type 0 where
  pub zeros : ZerosLaw
  pub get : GetLaw
  pub set : SetLaw
  pub swap : SwapLaw
  pub copy : CopyLaw
