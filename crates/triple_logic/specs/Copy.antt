-- The text of `lib_copy`, which copies words into a new block, and what it does.
use Rattle.std.specs.Prelude.{◌≡◌, ℕ, ◌+◌, ◌*◌, ◌≤◌, List, [], ◌∷◌, ◌++◌, length, replicate, codes}
use Rattle.target_code.specs.declared.tree.Calc.TheVariants.{Add, Lt}
use Rattle.target_code.specs.declared.tree.Proc.{Proc}
use Rattle.target_meaning.specs.Piece.{Piece, plus}
use Rattle.triple_logic.specs.Text.{Text, Stop, Const, Op, Load, Store, Alloc, While, proc_of}
use Rattle.triple_logic.specs.Weakest.{End_fact, Ended, Does}
use Rattle.triple_logic.specs.Blocks.{block, Reads}

-- whether a word is left to copy
abbrev pub copy_test : Text
copy_test = Op 7 Lt 6 2 Stop

-- one word is copied
abbrev pub copy_turn : Text
copy_turn = Op 8 Add 1 6 (Load 9 0 8 (Store 4 6 9 (Op 6 Add 6 5 Stop)))

-- a new block, and then word by word; the arguments are a block, an offset, how many words, and the length of the new block
abbrev pub copy_text : Text
copy_text = Alloc 4 3 (Const 5 1 (While copy_test 7 copy_turn Stop))

-- the procedure
abbrev pub lib_copy : Proc
lib_copy = proc_of (codes "lib_copy") 4 10 copy_text (4 ∷ [])

-- one block is new, with these words, beside a piece that is as it was; the results are told by its name, and these blocks may still be claimed
abbrev pub Makes : (ℕ → List ℕ) → List ℕ → Piece → List ℕ → End_fact
Makes regs words k rest = Ended ℕ (λ x. rest) regs (λ x. plus (block x words) k)

-- the words are copied, and zeros follow them up to the length of the new block, in 6 steps a word and 6 more; the block is all that is claimed
abbrev pub CopyLaw : Type 0
CopyLaw =
    (T : List Proc) (b off size pad w : ℕ) (ws xs : List ℕ) (k : Piece) → Reads b off xs k → length xs + pad ≡ size → size ≤ w →
    Does T lib_copy (Makes (λ x. x ∷ []) (xs ++ replicate pad 0) k ws) (6 * length xs + 6) (w ∷ ws) (b ∷ off ∷ length xs ∷ size ∷ []) k
