-- Procedures of vecs, and what they do: the elements stand in front of a block, whose other words are any.
use Rattle.std.specs.Prelude.{◌≡◌, ℕ, suc, ◌+◌, ◌*◌, ◌^◌, ◌<◌, ◌≤◌, List, [], ◌∷◌, ◌++◌, length, replicate, codes, slice_index, slice_set}
use Rattle.target_code.specs.declared.tree.Calc.TheVariants.{Sub}
use Rattle.target_code.specs.declared.tree.Proc.{Proc}
use Rattle.target_meaning.specs.Piece.{Piece, plus}
use Rattle.triple_logic.specs.Blocks.{block, Reads}
use Rattle.triple_logic.specs.Copy.{Makes}
use Rattle.triple_logic.specs.Text.{Text, Stop, Const, Op, Load, Store, Alloc, Call, proc_of}
use Rattle.triple_logic.specs.Weakest.{Does}
use Rattle.op_base.specs.Library.{HasCopy, Gives}
use Rattle.op_base.specs.Push.{HasPush, VecAt, push_claims, push_rest}
use Rattle.op_arrays.specs.Arrays.{swapped}

-- ---- no elements

abbrev pub nil_text : Text
nil_text = Const 2 4 (Alloc 0 2 Stop)

abbrev pub vec_nil : Proc
vec_nil = proc_of (codes "vec_nil") 0 3 nil_text (0 ∷ 1 ∷ 2 ∷ [])

abbrev pub NilLaw : Type 0
NilLaw =
    (T : List Proc) (w : ℕ) (a : List ℕ) (k : Piece) → 4 ≤ w
    → Does T vec_nil (Makes (λ x. x ∷ 0 ∷ 4 ∷ []) (replicate 4 0) k a) 3 (w ∷ a) [] k

-- ---- a word of the block

abbrev pub get_text : Text
get_text = Load 4 0 3 Stop

abbrev pub vec_get : Proc
vec_get = proc_of (codes "vec_get") 4 5 get_text (4 ∷ [])

abbrev pub GetLaw : Type 0
GetLaw =
    (T : List Proc) (b len cap i : ℕ) (a ws : List ℕ) (k : Piece) → i < length ws → Reads b 0 ws k
    → Does T vec_get (Gives a (slice_index ws i ∷ []) k) 2 a (b ∷ len ∷ cap ∷ i ∷ []) k

abbrev pub set_text : Text
set_text = Store 0 3 4 Stop

abbrev pub vec_set : Proc
vec_set = proc_of (codes "vec_set") 5 5 set_text (0 ∷ 1 ∷ 2 ∷ [])

abbrev pub SetLaw : Type 0
SetLaw =
    (T : List Proc) (b len cap i v : ℕ) (a ws : List ℕ) (k : Piece) → i < length ws
    → Does T vec_set (Gives a (b ∷ len ∷ cap ∷ []) (plus (block b (slice_set ws i v)) k)) 2 a (b ∷ len ∷ cap ∷ i ∷ v ∷ []) (plus (block b ws) k)

abbrev pub swap_text : Text
swap_text = Load 5 0 3 (Load 6 0 4 (Store 0 3 6 (Store 0 4 5 Stop)))

abbrev pub vec_swap : Proc
vec_swap = proc_of (codes "vec_swap") 5 7 swap_text (0 ∷ 1 ∷ 2 ∷ [])

abbrev pub SwapLaw : Type 0
SwapLaw =
    (T : List Proc) (b len cap i j : ℕ) (a ws : List ℕ) (k : Piece) → i < length ws → j < length ws
    → Does T vec_swap (Gives a (b ∷ len ∷ cap ∷ []) (plus (block b (swapped ws i j)) k)) 5 a (b ∷ len ∷ cap ∷ i ∷ j ∷ []) (plus (block b ws) k)

-- ---- the last element

abbrev pub pop_text : Text
pop_text = Const 3 1 (Op 1 Sub 1 3 (Load 4 0 1 Stop))

abbrev pub vec_pop : Proc
vec_pop = proc_of (codes "vec_pop") 3 5 pop_text (4 ∷ 0 ∷ 1 ∷ 2 ∷ [])

abbrev pub PopLaw : Type 0
PopLaw =
    (T : List Proc) (b n cap : ℕ) (a ws : List ℕ) (k : Piece) → n < length ws
    → Does T vec_pop (Gives a (slice_index ws n ∷ b ∷ n ∷ cap ∷ []) (plus (block b ws) k)) 4 a (b ∷ suc n ∷ cap ∷ []) (plus (block b ws) k)

-- ---- one element more: a full block moves to one of twice the words

abbrev pub push_text : Text
push_text = Call (0 ∷ 1 ∷ 2 ∷ []) (codes "lib_push") (0 ∷ 1 ∷ 2 ∷ 3 ∷ []) Stop

abbrev pub vec_push : Proc
vec_push = proc_of (codes "vec_push") 4 4 push_text (0 ∷ 1 ∷ 2 ∷ [])

-- in 6 steps a word and 18 more
abbrev pub PushLaw : Type 0
PushLaw =
    (T : List Proc) (b v : ℕ) (a xs rest : List ℕ) (k : Piece) → HasCopy T → HasPush T → length xs < 2 ^ 32 → 0 < length (xs ++ rest)
    → Does T vec_push (VecAt (xs ++ v ∷ []) (push_rest rest xs) k a) (6 * length xs + 18) (push_claims (length xs) rest a) (b ∷ length xs ∷ length (xs ++ rest) ∷ v ∷ []) (plus (block b (xs ++ rest)) k)

-- ---- the same elements in a new block of as many words

abbrev pub copy_text : Text
copy_text = Call (3 ∷ []) (codes "lib_copy") (0 ∷ 4 ∷ 1 ∷ 2 ∷ []) Stop

abbrev pub vec_copy : Proc
vec_copy = proc_of (codes "vec_copy") 3 5 copy_text (3 ∷ 1 ∷ 2 ∷ [])

abbrev pub CopyLaw : Type 0
CopyLaw =
    (T : List Proc) (b cap pad w : ℕ) (a xs : List ℕ) (k : Piece) → HasCopy T → Reads b 0 xs k → length xs + pad ≡ cap → cap ≤ w
    → Does T vec_copy (Makes (λ x. x ∷ length xs ∷ cap ∷ []) (xs ++ replicate pad 0) k a) (6 * length xs + 8) (w ∷ a) (b ∷ length xs ∷ cap ∷ []) k

pub record VecLaws : Type 0 where
  pub nil : NilLaw
  pub get : GetLaw
  pub set : SetLaw
  pub swap : SwapLaw
  pub pop : PopLaw
  pub push : PushLaw
  pub copy : CopyLaw
