-- Procedures of heaps, and what they do.
use Rattle.std.specs.Prelude.{◌≡◌, ℕ, suc, ◌+◌, ◌*◌, ◌-◌, ◌^◌, ◌/◌, ◌<◌, ◌≤◌, List, [], ◌∷◌, ◌++◌, length, replicate, take, codes, slice_index, ◌==◌}
use Rattle.containers.specs.Bag.{bag_of, added}
use Rattle.relations.specs.Blocks.{AreWords}
use Rattle.relations.specs.Represents.{count}
use Rattle.target_code.specs.declared.tree.Calc.TheVariants.{Add, Sub, Div, Min, Lt}
use Rattle.target_code.specs.declared.tree.Proc.{Proc}
use Rattle.target_meaning.specs.Piece.{Piece, plus}
use Rattle.triple_logic.specs.Text.{Text, Stop, Const, Mov, Op, Load, Store, Alloc, If, While, Call, proc_of}
use Rattle.triple_logic.specs.Weakest.{Ended, Does}
use Rattle.triple_logic.specs.Blocks.{block, Reads}
use Rattle.triple_logic.specs.Copy.{Makes}
use Rattle.op_base.specs.Library.{HasCopy}
use Rattle.op_base.specs.Push.{HasPush, push_claims}

-- how often a number is among the first n words
abbrev pub times : ℕ → List ℕ → ℕ → ℕ
times n ws y = count (λ i. slice_index ws i == y) n

-- where the parent of a word stands
abbrev pub parent : ℕ → ℕ
parent j = (j - 1) / 2

-- each of the first n words but the first is at least its parent
abbrev pub Ordered : ℕ → List ℕ → Type 0
Ordered n ws = (j : ℕ) → 1 ≤ j → j < n → slice_index ws (parent j) ≤ slice_index ws j

-- as many numbers as there are words
abbrev pub SizeLaw : Type 0
SizeLaw = (xs : List ℕ) → length (bag_of xs).list ≡ length xs

-- ---- empty

-- four words
abbrev pub empty_text : Text
empty_text = Const 2 4 (Alloc 0 2 Stop)

-- the procedure
abbrev pub heap_empty : Proc
heap_empty = proc_of (codes "heap_empty") 0 3 empty_text (0 ∷ 1 ∷ 2 ∷ [])

-- a new block of four words, none of them an element
abbrev pub EmptyLaw : Type 0
EmptyLaw = (T : List Proc) (w : ℕ) (ws : List ℕ) (k : Piece) → 4 ≤ w → Does T heap_empty (Makes (λ x. x ∷ 0 ∷ 4 ∷ []) (replicate 4 0) k ws) 3 (w ∷ ws) [] k

-- ---- add: block, elements, words, number

-- whether the number is less than its parent
abbrev pub up_test : Text
up_test = Op 7 Min 4 5 (Op 7 Sub 4 7 (Op 7 Div 7 6 (Load 8 0 7 (Op 9 Lt 3 8 Stop))))

-- the number and its parent change places
abbrev pub up_turn : Text
up_turn = Store 0 4 8 (Store 0 7 3 (Mov 4 7 Stop))

-- the number is pushed, and rises
abbrev pub add_text : Text
add_text = Mov 4 1 (Call (0 ∷ 1 ∷ 2 ∷ []) (codes "lib_push") (0 ∷ 1 ∷ 2 ∷ 3 ∷ []) (Const 5 1 (Const 6 2 (While up_test 9 up_turn Stop))))

-- the procedure
abbrev pub heap_add : Proc
heap_add = proc_of (codes "heap_add") 4 10 add_text (0 ∷ 1 ∷ 2 ∷ [])

-- a heap of these numbers and one more
pub record Added (v : ℕ) (xs : List ℕ) : Type 0 where
  pub name : ℕ
  pub words : List ℕ
  pub fits : suc (length xs) ≤ length words
  pub order : Ordered (suc (length xs)) words
  pub are_words : AreWords words
  pub short : length words < 2 ^ 64
  pub same : bag_of (take (suc (length xs)) words) ≡ added (bag_of xs) v

-- in 15 steps a word and 40 more; a full block moves to one of twice the words
abbrev pub AddLaw : Type 0
AddLaw =
    (T : List Proc) (b v : ℕ) (ws xs rest : List ℕ) (k : Piece) → HasCopy T → HasPush T → length xs < 2 ^ 32 → 0 < length (xs ++ rest) → Ordered (length xs) xs → AreWords (xs ++ rest) → v < 2 ^ 64 →
    Does T heap_add (Ended (Added v xs) (λ o. ws) (λ o. o.name ∷ suc (length xs) ∷ length o.words ∷ []) (λ o. plus (block o.name o.words) k)) (15 * length xs + 40) (push_claims (length xs) rest ws) (b ∷ length xs ∷ length (xs ++ rest) ∷ v ∷ []) (plus (block b (xs ++ rest)) k)

-- ---- minimum: block, elements, words

-- the first word
abbrev pub minimum_text : Text
minimum_text = Load 3 0 3 Stop

-- the procedure
abbrev pub heap_minimum : Proc
heap_minimum = proc_of (codes "heap_minimum") 3 4 minimum_text (3 ∷ [])

-- the least of these numbers, which is the first of them in order
pub record Least (xs : List ℕ) : Type 0 where
  pub least : ℕ
  pub others : List ℕ
  pub first : (bag_of xs).list ≡ least ∷ others
  pub is_word : least < 2 ^ 64

-- the heap is only read
abbrev pub MinimumLaw : Type 0
MinimumLaw =
    (T : List Proc) (b cap : ℕ) (a xs : List ℕ) (p : Piece) → Reads b 0 xs p → 0 < length xs → Ordered (length xs) xs → AreWords xs →
    Does T heap_minimum (Ended (Least xs) (λ o. a) (λ o. o.least ∷ []) (λ o. p)) 2 a (b ∷ length xs ∷ cap ∷ []) p

-- ---- take the least: block, elements, words

-- the lesser of two children
abbrev pub down_choose : Text
down_choose = Load 9 0 8 (Load 10 0 7 (Op 9 Lt 9 10 (Op 7 Add 7 9 Stop)))

-- a child, and whether it is less
abbrev pub down_child : Text
down_child = Load 10 0 7 (Op 9 Lt 10 5 Stop)

-- whether there is a child, and it is less
abbrev pub down_less : Text
down_less = Op 9 Lt 7 1 (If 9 down_child Stop Stop)

-- the same, from the number's place
abbrev pub down_test : Text
down_test = Op 7 Add 6 6 (Op 7 Add 7 4 (Op 8 Add 7 4 (Op 9 Lt 8 1 (If 9 down_choose Stop down_less))))

-- the number and that child change places
abbrev pub down_turn : Text
down_turn = Store 0 6 10 (Store 0 7 5 (Mov 6 7 Stop))

-- the last number is put first, and sinks
abbrev pub take_text : Text
take_text = Load 3 0 6 (Const 4 1 (Op 1 Sub 1 4 (Load 5 0 1 (Store 0 6 5 (While down_test 9 down_turn Stop)))))

-- the procedure
abbrev pub heap_take_min : Proc
heap_take_min = proc_of (codes "heap_take_min") 3 11 take_text (3 ∷ 0 ∷ 1 ∷ 2 ∷ [])

-- a heap of n numbers, which were with the first of these words n + 1
pub record Taken (n : ℕ) (ws : List ℕ) : Type 0 where
  pub words : List ℕ
  pub len : length words ≡ length ws
  pub order : Ordered n words
  pub are_words : AreWords words
  pub first : (bag_of (take (suc n) ws)).list ≡ slice_index ws 0 ∷ (bag_of (take n words)).list

-- in 17 steps a number and 40 more
abbrev pub TakeLaw : Type 0
TakeLaw =
    (T : List Proc) (b n : ℕ) (a ws : List ℕ) (k : Piece) → n < 2 ^ 32 → suc n ≤ length ws → Ordered (suc n) ws → AreWords ws →
    Does T heap_take_min (Ended (Taken n ws) (λ o. a) (λ o. slice_index ws 0 ∷ b ∷ n ∷ length ws ∷ []) (λ o. plus (block b o.words) k)) (17 * n + 40) a (b ∷ suc n ∷ length ws ∷ []) (plus (block b ws) k)

-- ---- copy: block, elements, words

-- the elements are copied
abbrev pub copy_text : Text
copy_text = Call (3 ∷ []) (codes "lib_copy") (0 ∷ 4 ∷ 1 ∷ 2 ∷ []) Stop

-- the procedure
abbrev pub heap_copy : Proc
heap_copy = proc_of (codes "heap_copy") 3 5 copy_text (3 ∷ 1 ∷ 2 ∷ [])

-- a new block of as many words, with the elements first
abbrev pub CopyLaw : Type 0
CopyLaw =
    (T : List Proc) (b cap pad w : ℕ) (ws xs : List ℕ) (k : Piece) → HasCopy T → Reads b 0 xs k → length xs + pad ≡ cap → cap ≤ w →
    Does T heap_copy (Makes (λ x. x ∷ length xs ∷ cap ∷ []) (xs ++ replicate pad 0) k ws) (6 * length xs + 8) (w ∷ ws) (b ∷ length xs ∷ cap ∷ []) k
