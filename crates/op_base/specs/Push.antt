-- The text of `lib_push`, which puts a number behind the first words of a block, and what it does.
use Rattle.std.specs.Prelude.{◌≡◌, ℕ, ◌+◌, ◌*◌, ◌^◌, ◌<◌, List, [], ◌∷◌, ◌++◌, length, replicate, codes, Some}
use Rattle.target_code.specs.declared.tree.Calc.TheVariants.{Add, Lt}
use Rattle.target_code.specs.declared.tree.Proc.{Proc}
use Rattle.target_meaning.specs.Leaf.{find}
use Rattle.target_meaning.specs.Piece.{Piece, plus}
use Rattle.triple_logic.specs.Text.{Text, Stop, Const, Mov, Op, Store, Free, If, Call, proc_of}
use Rattle.triple_logic.specs.Weakest.{End_fact, Ended, Does}
use Rattle.triple_logic.specs.Blocks.{block}
use Rattle.op_base.specs.Library.{HasCopy}

-- the number is stored behind the first words
abbrev pub push_tail : Text
push_tail = Store 0 1 3 (Const 6 1 (Op 1 Add 1 6 Stop))

-- the words move to a block of twice the words
abbrev pub push_grow : Text
push_grow = Op 2 Add 2 2 (Call (5 ∷ []) (codes "lib_copy") (0 ∷ 6 ∷ 1 ∷ 2 ∷ []) (Free 0 (Mov 0 5 Stop)))

-- block, how many words, words of the block, number
abbrev pub push_text : Text
push_text = Op 4 Lt 1 2 (If 4 Stop push_grow push_tail)

-- the procedure
abbrev pub lib_push : Proc
lib_push = proc_of (codes "lib_push") 4 7 push_text (0 ∷ 1 ∷ 2 ∷ [])

-- it is among the procedures
abbrev pub HasPush : List Proc → Type 0
HasPush T = find T (codes "lib_push") ≡ Some lib_push

-- the words behind the number: those that were there, or zeros up to twice the words
abbrev pub push_rest : (rest xs : List ℕ) → List ℕ
push_rest (r ∷ rest) xs = rest
push_rest [] [] = []
push_rest [] (x ∷ xs) = replicate (length xs) 0

-- some block with these words first, and then those
abbrev pub VecAt : (xs rest : List ℕ) → Piece → List ℕ → End_fact
VecAt xs rest k ws = Ended ℕ (λ x. ws) (λ x. x ∷ length xs ∷ length (xs ++ rest) ∷ []) (λ x. plus (block x (xs ++ rest)) k)

-- twice the words where the block is full, and else no block
abbrev pub push_claims : ℕ → List ℕ → List ℕ → List ℕ
push_claims n [] ws = (n + n) ∷ ws
push_claims n (r ∷ rest) ws = ws

-- in 6 steps a word and 16 more
abbrev pub PushLaw : Type 0
PushLaw =
    (T : List Proc) (b v : ℕ) (ws xs rest : List ℕ) (k : Piece) → HasCopy T → length xs < 2 ^ 32 → 0 < length (xs ++ rest) →
    Does T lib_push (VecAt (xs ++ v ∷ []) (push_rest rest xs) k ws) (6 * length xs + 16) (push_claims (length xs) rest ws) (b ∷ length xs ∷ length (xs ++ rest) ∷ v ∷ []) (plus (block b (xs ++ rest)) k)
