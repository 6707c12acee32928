-- Procedures of sets of bits, and what they do: the bound comes first, then the block and the number of elements.
use Rattle.std.specs.Prelude.{◌≡◌, ℕ, ◌+◌, ◌*◌, ◌/◌, ◌%◌, ◌^◌, ◌<◌, ◌≤◌, true, List, [], ◌∷◌, length, replicate, codes, slice_index}
use Rattle.std.specs.Prelude.{Some}
use Rattle.std.specs.Int.{bit_at}
use Rattle.containers.specs.Sets as sets
use Rattle.target_code.specs.declared.tree.Calc.TheVariants.{Add, Sub, Div, Mod, Lt, And, Or, Xor, Shl, Shr}
use Rattle.target_code.specs.declared.tree.Proc.{Proc}
use Rattle.target_meaning.specs.Leaf.{find}
use Rattle.target_meaning.specs.Piece.{Piece, plus}
use Rattle.triple_logic.specs.Blocks.{block, Reads}
use Rattle.triple_logic.specs.Copy.{Makes}
use Rattle.triple_logic.specs.Text.{Text, Stop, Const, Op, Load, Store, Alloc, If, While, Call, proc_of}
use Rattle.triple_logic.specs.Weakest.{End_fact, Ended, Does}
use Rattle.relations.specs.Blocks.{AreWords}
use Rattle.relations.specs.Represents.{Set, one_if}
use Rattle.op_base.specs.Library.{HasCopy, Gives}

-- the words of a block have a bit for each element, and no other
pub record HasBits (u : ℕ) (s : Set) (ws : List ℕ) : Type 0 where
  pub size : length ws ≡ (u + 63) / 64
  pub bits : (x : ℕ) → x / 64 < length ws → bit_at (slice_index ws (x / 64)) (x % 64) ≡ one_if (sets.contains s x)
  pub bounded : (x : ℕ) → sets.contains s x ≡ true → x < u
  pub words : AreWords ws

-- the block has the bits of this set, and the count is its size
abbrev pub GivesBits : ℕ → Set → ℕ → Piece → List ℕ → End_fact
GivesBits u s b k a = Ended ((ws : List ℕ) × HasBits u s ws) (λ o. a) (λ o. b ∷ sets.len s ∷ []) (λ o. plus (block b o.0) k)

-- ---- no elements

abbrev pub empty_text : Text
empty_text = Const 1 63 (Op 2 Add 0 1 (Const 1 64 (Op 2 Div 2 1 (Alloc 1 2 Stop))))

abbrev pub bits_empty : Proc
bits_empty = proc_of (codes "bits_empty") 1 4 empty_text (1 ∷ 3 ∷ [])

abbrev pub EmptyLaw : Type 0
EmptyLaw =
    (T : List Proc) (u w : ℕ) (a : List ℕ) (k : Piece) → u < 2 ^ 32 → (u + 63) / 64 ≤ w
    → Does T bits_empty (Makes (λ x. x ∷ 0 ∷ []) (replicate ((u + 63) / 64) 0) k a) 6 (w ∷ a) (u ∷ []) k

-- ---- whether a number is an element

abbrev pub has_text : Text
has_text = Op 4 Lt 3 0 (If 4 (Const 5 64 (Op 6 Mod 3 5 (Op 5 Div 3 5 (Load 4 1 5 (Op 4 Shr 4 6 (Const 5 1 (Op 4 And 4 5 Stop))))))) Stop Stop)

abbrev pub bits_has : Proc
bits_has = proc_of (codes "bits_has") 4 7 has_text (4 ∷ [])

abbrev pub HasLaw : Type 0
HasLaw =
    (T : List Proc) (u b n x : ℕ) (a ws : List ℕ) (s : Set) (p : Piece) → Reads b 0 ws p → HasBits u s ws
    → Does T bits_has (Gives a (one_if (sets.contains s x) ∷ []) p) 10 a (u ∷ b ∷ n ∷ x ∷ []) p

abbrev pub HasHas : List Proc → Type 0
HasHas T = find T (codes "bits_has") ≡ Some bits_has

-- ---- one element more

abbrev pub insert_new : Text
insert_new = Op 7 Or 7 6 (Store 1 4 7 (Op 2 Add 2 5 Stop))

abbrev pub insert_text : Text
insert_text = Const 4 64 (Op 6 Mod 3 4 (Op 4 Div 3 4 (Const 5 1 (Op 6 Shl 5 6 (Load 7 1 4 (Op 8 And 7 6 (If 8 Stop insert_new Stop)))))))

abbrev pub bits_insert : Proc
bits_insert = proc_of (codes "bits_insert") 4 9 insert_text (1 ∷ 2 ∷ [])

abbrev pub InsertLaw : Type 0
InsertLaw =
    (T : List Proc) (u b x : ℕ) (a ws : List ℕ) (s : Set) (k : Piece) → x < u → sets.len s < 2 ^ 32 → HasBits u s ws
    → Does T bits_insert (GivesBits u (sets.insert s x) b k a) 12 a (u ∷ b ∷ sets.len s ∷ x ∷ []) (plus (block b ws) k)

abbrev pub HasInsert : List Proc → Type 0
HasInsert T = find T (codes "bits_insert") ≡ Some bits_insert

-- ---- one element less

abbrev pub remove_old : Text
remove_old = Const 4 64 (Op 6 Mod 3 4 (Op 4 Div 3 4 (Const 5 1 (Op 6 Shl 5 6 (Load 7 1 4 (Op 7 Xor 7 6 (Store 1 4 7 (Op 2 Sub 2 5 Stop))))))))

abbrev pub remove_text : Text
remove_text = Call (4 ∷ []) (codes "bits_has") (0 ∷ 1 ∷ 2 ∷ 3 ∷ []) (If 4 remove_old Stop Stop)

abbrev pub bits_remove : Proc
bits_remove = proc_of (codes "bits_remove") 4 9 remove_text (1 ∷ 2 ∷ [])

abbrev pub RemoveLaw : Type 0
RemoveLaw =
    (T : List Proc) (u b x : ℕ) (a ws : List ℕ) (s : Set) (k : Piece) → HasHas T → sets.len s < 2 ^ 32 → HasBits u s ws
    → Does T bits_remove (GivesBits u (sets.remove s x) b k a) 22 a (u ∷ b ∷ sets.len s ∷ x ∷ []) (plus (block b ws) k)

-- ---- the least element

abbrev pub pick_test : Text
pick_test = Call (5 ∷ []) (codes "bits_has") (0 ∷ 1 ∷ 2 ∷ 3 ∷ []) (Op 5 Lt 5 4 Stop)

abbrev pub pick_turn : Text
pick_turn = Op 3 Add 3 4 Stop

abbrev pub pick_text : Text
pick_text = Const 4 1 (While pick_test 5 pick_turn Stop)

abbrev pub bits_pick : Proc
bits_pick = proc_of (codes "bits_pick") 3 6 pick_text (3 ∷ [])

-- a number that is an element
abbrev pub GivesMember : Set → Piece → List ℕ → End_fact
GivesMember s k a = Ended ((x : ℕ) × (sets.contains s x ≡ true)) (λ o. a) (λ o. o.0 ∷ []) (λ o. k)

abbrev pub PickLaw : Type 0
PickLaw =
    (T : List Proc) (u b n x : ℕ) (a ws : List ℕ) (s : Set) (k : Piece) → HasHas T → u < 2 ^ 32 → sets.contains s x ≡ true → Reads b 0 ws k → HasBits u s ws
    → Does T bits_pick (GivesMember s k a) (14 * u + 20) a (u ∷ b ∷ n ∷ []) k

-- ---- the elements of another set too

abbrev pub union_test : Text
union_test = Op 7 Lt 5 0 Stop

abbrev pub union_turn : Text
union_turn = Call (7 ∷ []) (codes "bits_has") (0 ∷ 3 ∷ 4 ∷ 5 ∷ []) (If 7 (Call (1 ∷ 2 ∷ []) (codes "bits_insert") (0 ∷ 1 ∷ 2 ∷ 5 ∷ []) Stop) Stop (Op 5 Add 5 6 Stop))

abbrev pub union_text : Text
union_text = Const 6 1 (While union_test 7 union_turn Stop)

abbrev pub bits_union : Proc
bits_union = proc_of (codes "bits_union") 5 8 union_text (1 ∷ 2 ∷ [])

abbrev pub UnionLaw : Type 0
UnionLaw =
    (T : List Proc) (u b c m : ℕ) (a ws ks : List ℕ) (s t : Set) (k : Piece) → HasHas T → HasInsert T → u < 2 ^ 32 → sets.len (sets.union s t) < 2 ^ 32 → HasBits u s ws → Reads c 0 ks k → HasBits u t ks
    → Does T bits_union (GivesBits u (sets.union s t) b k a) (28 * u + 5) a (u ∷ b ∷ sets.len s ∷ c ∷ m ∷ []) (plus (block b ws) k)

-- ---- the elements, ascending

abbrev pub elems_turn : Text
elems_turn = Call (7 ∷ []) (codes "bits_has") (0 ∷ 1 ∷ 2 ∷ 5 ∷ []) (If 7 (Store 3 6 5 (Op 6 Add 6 4 Stop)) Stop (Op 5 Add 5 4 Stop))

abbrev pub elems_text : Text
elems_text = Alloc 3 2 (Const 4 1 (While union_test 7 elems_turn Stop))

abbrev pub bits_elems : Proc
bits_elems = proc_of (codes "bits_elems") 3 9 elems_text (3 ∷ 8 ∷ 2 ∷ [])

abbrev pub ElemsLaw : Type 0
ElemsLaw =
    (T : List Proc) (u b w : ℕ) (a ws : List ℕ) (s : Set) (k : Piece) → HasHas T → u < 2 ^ 32 → Reads b 0 ws k → HasBits u s ws → sets.len s ≤ w
    → Does T bits_elems (Makes (λ x. x ∷ 0 ∷ sets.len s ∷ []) (sets.items s) k a) (17 * u + 6) (w ∷ a) (u ∷ b ∷ sets.len s ∷ []) k

-- ---- the same words in a new block

abbrev pub copy_text : Text
copy_text = Const 3 63 (Op 4 Add 0 3 (Const 3 64 (Op 4 Div 4 3 (Call (3 ∷ []) (codes "lib_copy") (1 ∷ 5 ∷ 4 ∷ 4 ∷ []) Stop))))

abbrev pub bits_copy : Proc
bits_copy = proc_of (codes "bits_copy") 3 6 copy_text (3 ∷ 2 ∷ [])

abbrev pub CopyLaw : Type 0
CopyLaw =
    (T : List Proc) (u b n w : ℕ) (a ws : List ℕ) (k : Piece) → HasCopy T → u < 2 ^ 32 → Reads b 0 ws k → length ws ≡ (u + 63) / 64 → length ws ≤ w
    → Does T bits_copy (Makes (λ x. x ∷ n ∷ []) ws k a) (6 * length ws + 12) (w ∷ a) (u ∷ b ∷ n ∷ []) k

pub record BitsLaws : Type 0 where
  pub empty : EmptyLaw
  pub has : HasLaw
  pub insert : InsertLaw
  pub remove : RemoveLaw
  pub pick : PickLaw
  pub union : UnionLaw
  pub elems : ElemsLaw
  pub copy : CopyLaw
