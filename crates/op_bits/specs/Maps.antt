-- Procedures of maps below a bound, and what they do: the bound comes first, then the block and the number of keys.
use Rattle.std.specs.Prelude.{◌≡◌, ℕ, ◌+◌, ◌*◌, ◌^◌, ◌<◌, ◌≤◌, true, List, [], ◌∷◌, length, replicate, codes, slice_index}
use Rattle.std.specs.Prelude.{Some}
use Rattle.std.specs.FinMap as maps
use Rattle.target_code.specs.declared.tree.Calc.TheVariants.{Add, Sub, Lt}
use Rattle.target_code.specs.declared.tree.Proc.{Proc}
use Rattle.target_meaning.specs.Piece.{Piece, plus}
use Rattle.triple_logic.specs.Blocks.{block, Reads}
use Rattle.triple_logic.specs.Copy.{Makes}
use Rattle.triple_logic.specs.Text.{Text, Stop, Const, Op, Load, Store, Alloc, If, While, Call, proc_of}
use Rattle.triple_logic.specs.Weakest.{End_fact, Ended, Does}
use Rattle.relations.specs.Blocks.{AreWords}
use Rattle.relations.specs.Represents.{Map, one_if}
use Rattle.op_base.specs.Library.{HasCopy, Gives}
use Rattle.op_bits.specs.Bits.{union_test}

-- a block has a mark and a value for each number below the bound
pub record HasKeys (u : ℕ) (m : Map) (ws : List ℕ) : Type 0 where
  pub size : length ws ≡ 2 * u
  pub marks : (k : ℕ) → k < u → slice_index ws (2 * k) ≡ one_if (maps.contains_key m k)
  pub values : (k x : ℕ) → k < u → maps.get m k ≡ Some x → slice_index ws (2 * k + 1) ≡ x
  pub bounded : (k : ℕ) → maps.contains_key m k ≡ true → k < u
  pub words : AreWords ws

-- the block has this map, and the count is its size
abbrev pub GivesMap : ℕ → Map → ℕ → Piece → List ℕ → End_fact
GivesMap u m b k a = Ended ((ws : List ℕ) × HasKeys u m ws) (λ o. a) (λ o. b ∷ maps.len m ∷ []) (λ o. plus (block b o.0) k)

-- ---- no key

abbrev pub empty_text : Text
empty_text = Op 1 Add 0 0 (Alloc 1 1 Stop)

abbrev pub amap_empty : Proc
amap_empty = proc_of (codes "amap_empty") 1 3 empty_text (1 ∷ 2 ∷ [])

abbrev pub EmptyLaw : Type 0
EmptyLaw =
    (T : List Proc) (u w : ℕ) (a : List ℕ) (k : Piece) → u < 2 ^ 32 → 2 * u ≤ w
    → Does T amap_empty (Makes (λ x. x ∷ 0 ∷ []) (replicate (2 * u) 0) k a) 3 (w ∷ a) (u ∷ []) k

-- ---- whether a number is a key

abbrev pub has_text : Text
has_text = Op 4 Lt 3 0 (If 4 (Op 5 Add 3 3 (Load 4 1 5 Stop)) Stop Stop)

abbrev pub amap_has : Proc
amap_has = proc_of (codes "amap_has") 4 6 has_text (4 ∷ [])

abbrev pub HasLaw : Type 0
HasLaw =
    (T : List Proc) (u b n x : ℕ) (a ws : List ℕ) (m : Map) (p : Piece) → u < 2 ^ 32 → Reads b 0 ws p → HasKeys u m ws
    → Does T amap_has (Gives a (one_if (maps.contains_key m x) ∷ []) p) 5 a (u ∷ b ∷ n ∷ x ∷ []) p

-- ---- the value at a key

abbrev pub lookup_text : Text
lookup_text = Op 4 Add 3 3 (Const 5 1 (Op 4 Add 4 5 (Load 4 1 4 Stop)))

abbrev pub amap_lookup : Proc
amap_lookup = proc_of (codes "amap_lookup") 4 6 lookup_text (4 ∷ [])

abbrev pub LookupLaw : Type 0
LookupLaw =
    (T : List Proc) (u b n x y : ℕ) (a ws : List ℕ) (m : Map) (p : Piece) → u < 2 ^ 32 → maps.get m x ≡ Some y → Reads b 0 ws p → HasKeys u m ws
    → Does T amap_lookup (Gives a (y ∷ []) p) 5 a (u ∷ b ∷ n ∷ x ∷ []) p

-- ---- a value at a key

abbrev pub put_text : Text
put_text = Op 5 Add 3 3 (Load 6 1 5 (Const 7 1 (Store 1 5 7 (Op 5 Add 5 7 (Store 1 5 4 (Op 6 Sub 7 6 (Op 2 Add 2 6 Stop)))))))

abbrev pub amap_put : Proc
amap_put = proc_of (codes "amap_put") 5 8 put_text (1 ∷ 2 ∷ [])

abbrev pub PutLaw : Type 0
PutLaw =
    (T : List Proc) (u b x y : ℕ) (a ws : List ℕ) (m : Map) (k : Piece) → u < 2 ^ 32 → x < u → y < 2 ^ 64 → maps.len m < 2 ^ 32 → HasKeys u m ws
    → Does T amap_put (GivesMap u (maps.insert m x y) b k a) 9 a (u ∷ b ∷ maps.len m ∷ x ∷ y ∷ []) (plus (block b ws) k)

-- ---- one key less

abbrev pub del_old : Text
del_old = Op 5 Add 3 3 (Load 4 1 5 (Store 1 5 6 (Op 2 Sub 2 4 Stop)))

abbrev pub del_text : Text
del_text = Op 4 Lt 3 0 (If 4 del_old Stop Stop)

abbrev pub amap_del : Proc
amap_del = proc_of (codes "amap_del") 4 7 del_text (1 ∷ 2 ∷ [])

abbrev pub DelLaw : Type 0
DelLaw =
    (T : List Proc) (u b x : ℕ) (a ws : List ℕ) (m : Map) (k : Piece) → u < 2 ^ 32 → maps.len m < 2 ^ 32 → HasKeys u m ws
    → Does T amap_del (GivesMap u (maps.remove m x) b k a) 7 a (u ∷ b ∷ maps.len m ∷ x ∷ []) (plus (block b ws) k)

-- ---- the keys, ascending

abbrev pub keys_turn : Text
keys_turn = Op 7 Add 5 5 (Load 7 1 7 (If 7 (Store 3 6 5 (Op 6 Add 6 4 Stop)) Stop (Op 5 Add 5 4 Stop)))

abbrev pub keys_text : Text
keys_text = Alloc 3 2 (Const 4 1 (While union_test 7 keys_turn Stop))

abbrev pub amap_keys : Proc
amap_keys = proc_of (codes "amap_keys") 3 9 keys_text (3 ∷ 8 ∷ 2 ∷ [])

abbrev pub KeysLaw : Type 0
KeysLaw =
    (T : List Proc) (u b w : ℕ) (a ws : List ℕ) (m : Map) (k : Piece) → u < 2 ^ 32 → Reads b 0 ws k → HasKeys u m ws → maps.len m ≤ w
    → Does T amap_keys (Makes (λ x. x ∷ 0 ∷ maps.len m ∷ []) (maps.keys m) k a) (8 * u + 6) (w ∷ a) (u ∷ b ∷ maps.len m ∷ []) k

-- ---- the same words in a new block

abbrev pub copy_text : Text
copy_text = Op 3 Add 0 0 (Call (3 ∷ []) (codes "lib_copy") (1 ∷ 4 ∷ 3 ∷ 3 ∷ []) Stop)

abbrev pub amap_copy : Proc
amap_copy = proc_of (codes "amap_copy") 3 5 copy_text (3 ∷ 2 ∷ [])

abbrev pub CopyLaw : Type 0
CopyLaw =
    (T : List Proc) (u b n w : ℕ) (a ws : List ℕ) (k : Piece) → HasCopy T → u < 2 ^ 32 → Reads b 0 ws k → length ws ≡ 2 * u → length ws ≤ w
    → Does T amap_copy (Makes (λ x. x ∷ n ∷ []) ws k a) (6 * length ws + 9) (w ∷ a) (u ∷ b ∷ n ∷ []) k

pub record MapLaws : Type 0 where
  pub empty : EmptyLaw
  pub has : HasLaw
  pub lookup : LookupLaw
  pub put : PutLaw
  pub del : DelLaw
  pub keys : KeysLaw
  pub copy : CopyLaw
