-- What the procedures of hash tables do, for either width. None bounds the slots.
use Rattle.std.specs.Prelude.{◌≡◌, ℕ, ◌+◌, ◌*◌, ◌^◌, ◌/◌, ◌<◌, ◌≤◌, true, false, List, [], ◌∷◌, length, codes, None, Some}
use Rattle.std.specs.FinMap as maps
use Rattle.std.specs.List.Sorted.{IsPermutation}
use Rattle.std.specs.Ordering.{nat_cmp}
use Rattle.containers.specs.Sets as sets
use Rattle.relations.specs.Blocks.{AreWords}
use Rattle.relations.specs.Represents.{Set, Map, one_if, IsTable}
use Rattle.target_code.specs.declared.tree.Proc.{Proc}
use Rattle.target_meaning.specs.Leaf.{find}
use Rattle.target_meaning.specs.Piece.{Piece, plus}
use Rattle.triple_logic.specs.Weakest.{Ended, Does}
use Rattle.triple_logic.specs.Blocks.{block, Reads}
use Rattle.triple_logic.specs.Copy.{Makes}
use Rattle.op_base.specs.Counts.{Test, put, del}
use Rattle.op_base.specs.Library.{HasCopy}
use Rattle.op_hash.specs.Tables.{Found, Values, put_value, del_value, HasValues, keys_of, IsEach, NewTable, Inserted}
use Rattle.op_hash.specs.Texts.{lib_find, lib_keys, lib_hset_move, lib_hmap_move, hset_insert, hmap_put}

-- the helpers are among the procedures
abbrev pub HasFind : List Proc → Type 0
HasFind T = find T (codes "lib_find") ≡ Some lib_find

abbrev pub HasKeys : List Proc → Type 0
HasKeys T = find T (codes "lib_keys") ≡ Some lib_keys

-- ---- helpers

abbrev pub find_steps : ℕ → ℕ
find_steps cap = 24 * cap + 20

-- the walk, over a block that is only read
abbrev pub FindLaw : Type 0
FindLaw =
    (T : List Proc) (w b cap n used x : ℕ) (a ws : List ℕ) (has : Test) (p : Piece) → 2 ≤ w → Reads b 0 ws p → IsTable w ws has cap n used →
    Does T lib_find (Ended (Found w cap x has ws) (λ o. a) (λ o. w * o.slot ∷ one_if (has x) ∷ []) (λ o. p)) (find_steps cap) a (b ∷ cap ∷ w ∷ x ∷ []) p

abbrev pub keys_steps : ℕ → ℕ
keys_steps cap = 11 * cap + 6

-- the keys, in a new block
abbrev pub KeysLaw : Type 0
KeysLaw =
    (T : List Proc) (w b cap n used m : ℕ) (rest ws : List ℕ) (has : Test) (k : Piece) → 2 ≤ w → Reads b 0 ws k → IsTable w ws has cap n used → n ≤ m →
    Does T lib_keys (Makes (λ x. x ∷ []) (keys_of w ws cap) k rest) (keys_steps cap) (m ∷ rest) (b ∷ cap ∷ w ∷ n ∷ []) k

-- they are all, each once
abbrev pub EachLaw : Type 0
EachLaw = (w cap n used : ℕ) (ws : List ℕ) (has : Test) → IsTable w ws has cap n used → (length (keys_of w ws cap) ≡ n) × IsEach has (keys_of w ws cap)

abbrev pub KeyWordsLaw : Type 0
KeyWordsLaw = (w cap n used : ℕ) (ws : List ℕ) (has : Test) → 2 ≤ w → IsTable w ws has cap n used → AreWords ws → AreWords (keys_of w ws cap)

-- a set's numbers, or a map's keys, in another order; and how many
abbrev pub SetKeysLaw : Type 0
SetKeysLaw = (s : Set) (w cap n used : ℕ) (ws : List ℕ) → IsTable w ws (sets.contains s) cap n used → IsPermutation (sets.items s) (keys_of w ws cap) × (n ≡ sets.len s)

abbrev pub MapKeysLaw : Type 0
MapKeysLaw = (m : Map) (w cap n used : ℕ) (ws : List ℕ) → IsTable w ws (maps.contains_key m) cap n used → IsPermutation (maps.keys m) (keys_of w ws cap) × (n ≡ maps.len m)

-- sets as tests
pub record SetsAsTests : Type 0 where
  pub none : sets.contains {K = ℕ} {R = nat_cmp} sets.empty ≡ (λ x. false)
  pub more : (s : Set) (x : ℕ) → sets.contains (sets.insert s x) ≡ put (sets.contains s) x
  pub less : (s : Set) (x : ℕ) → sets.contains (sets.remove s x) ≡ del (sets.contains s) x

-- maps as tests of keys and values at keys
pub record MapsAsTests : Type 0 where
  pub none : maps.contains_key {R = nat_cmp} (maps.empty {X = ℕ}) ≡ (λ x. false)
  pub more : (m : Map) (x v : ℕ) → maps.contains_key (maps.insert m x v) ≡ put (maps.contains_key m) x
  pub less : (m : Map) (x : ℕ) → maps.contains_key (maps.remove m x) ≡ del (maps.contains_key m) x
  pub no_value : maps.get {R = nat_cmp} (maps.empty {X = ℕ}) ≡ (λ x. None)
  pub more_values : (m : Map) (x v : ℕ) → maps.get (maps.insert m x v) ≡ put_value (maps.get m) x v
  pub fewer_values : (m : Map) (x : ℕ) → maps.get (maps.remove m x) ≡ del_value (maps.get m) x

abbrev pub move_steps : ℕ → ℕ → ℕ
move_steps cap ncap = cap * (24 * ncap + 40) + 8

-- the keys, in a new table with no slot gone
abbrev pub MoveLaw : ℕ → Proc → Type 0
MoveLaw w move =
    (T : List Proc) (b cap n used ncap m : ℕ) (rest ws : List ℕ) (has : Test) (get : Values) (k : Piece) → HasFind T → Reads b 0 ws k → IsTable w ws has cap n used → HasValues w ws cap get → AreWords ws →
    (e : ℕ) → ncap ≡ 8 * 2 ^ e → n < ncap → w * ncap < 2 ^ 64 → w * ncap ≤ m →
    Does T move (Ended (NewTable w ncap n n has get) (λ o. rest) (λ o. o.name ∷ []) (λ o. plus (block o.name o.words) k)) (move_steps cap ncap) (m ∷ rest) (b ∷ cap ∷ ncap ∷ []) k

-- ---- procedures of both

-- eight slots, all empty
abbrev pub EmptyLaw : ℕ → Proc → Type 0
EmptyLaw w g =
    (T : List Proc) (m : ℕ) (rest : List ℕ) (k : Piece) → 8 * w ≤ m →
    Does T g (Ended (NewTable w 8 0 0 (λ x. false) (λ x. None)) (λ o. rest) (λ o. o.name ∷ 8 ∷ 0 ∷ 0 ∷ []) (λ o. plus (block o.name o.words) k)) 4 (m ∷ rest) [] k

-- whether a key is there; the block is only read
abbrev pub HasLaw : ℕ → Proc → Type 0
HasLaw w g =
    (T : List Proc) (b cap n used x : ℕ) (a ws : List ℕ) (has : Test) (p : Piece) → HasFind T → Reads b 0 ws p → IsTable w ws has cap n used →
    Does T g (Ended (Unit {0}) (λ o. a) (λ o. one_if (has x) ∷ []) (λ o. p)) (find_steps cap + 3) a (b ∷ cap ∷ n ∷ used ∷ x ∷ []) p

-- a key less; its slot is gone
pub record Removed (w cap n used x : ℕ) (has : Test) (get : Values) : Type 0 where
  pub keys : ℕ
  pub words : List ℕ
  pub table : IsTable w words (del has x) cap keys used
  pub counted : keys + one_if (has x) ≡ n
  pub values : HasValues w words cap (del_value get x)
  pub are_words : AreWords words

abbrev pub RemoveLaw : ℕ → Proc → Type 0
RemoveLaw w g =
    (T : List Proc) (b cap n used x : ℕ) (a ws : List ℕ) (has : Test) (get : Values) (k : Piece) → HasFind T → IsTable w ws has cap n used → HasValues w ws cap get → AreWords ws →
    Does T g (Ended (Removed w cap n used x has get) (λ o. a) (λ o. b ∷ cap ∷ o.keys ∷ used ∷ []) (λ o. plus (block b o.words) k)) (find_steps cap + 7) a (b ∷ cap ∷ n ∷ used ∷ x ∷ []) (plus (block b ws) k)

-- the same words in a new block
abbrev pub CopyLaw : ℕ → Proc → Type 0
CopyLaw w g =
    (T : List Proc) (b cap n used m : ℕ) (rest ws : List ℕ) (k : Piece) → HasCopy T → Reads b 0 ws k → length ws ≡ w * cap → 0 < cap → w * cap ≤ m →
    Does T g (Makes (λ x. x ∷ cap ∷ n ∷ used ∷ []) ws k rest) (6 * length ws + 10) (m ∷ rest) (b ∷ cap ∷ n ∷ used ∷ []) k

-- the keys in a new block, as an array
abbrev pub ElemsLaw : ℕ → Proc → Type 0
ElemsLaw w g =
    (T : List Proc) (b cap n used m : ℕ) (rest ws : List ℕ) (has : Test) (k : Piece) → HasKeys T → Reads b 0 ws k → IsTable w ws has cap n used → n ≤ m →
    Does T g (Makes (λ x. x ∷ 0 ∷ n ∷ []) (keys_of w ws cap) k rest) (keys_steps cap + 3) (m ∷ rest) (b ∷ cap ∷ n ∷ used ∷ []) k

abbrev pub insert_steps : ℕ → ℕ
insert_steps cap = cap * (48 * cap + 40) + 72 * cap + 110

-- what may be claimed: nothing where the key is there or there is room, and else twice the words
pub record Claims (w cap used x : ℕ) (has : Test) (a rest : List ℕ) : Type 0 where
  pub old : has x ≡ true → a ≡ rest
  pub room : has x ≡ false → used < 3 * (cap / 4) → a ≡ rest
  pub grow : has x ≡ false → 3 * (cap / 4) ≤ used → a ≡ 2 * (w * cap) ∷ rest

-- ---- sets

-- a key more
abbrev pub InsertLaw : Type 0
InsertLaw =
    (T : List Proc) (b cap n used x : ℕ) (a rest ws : List ℕ) (has : Test) (k : Piece) → HasFind T → find T (codes "lib_hset_move") ≡ Some lib_hset_move → IsTable 2 ws has cap n used → n < 2 ^ 32 →
    AreWords ws → x < 2 ^ 64 → Claims 2 cap used x has a rest →
    Does T hset_insert (Ended (Inserted 2 n x has (λ y. None)) (λ o. rest) (λ o. o.name ∷ o.cap ∷ o.keys ∷ o.used ∷ []) (λ o. plus (block o.name o.words) k)) (insert_steps cap) a (b ∷ cap ∷ n ∷ used ∷ x ∷ []) (plus (block b ws) k)

-- some key; the block is only read
pub record Picked (has : Test) : Type 0 where
  pub picked : ℕ
  pub there : has picked ≡ true
  pub is_word : picked < 2 ^ 64

abbrev pub PickLaw : Proc → Type 0
PickLaw g =
    (T : List Proc) (b cap n used : ℕ) (a ws : List ℕ) (has : Test) (p : Piece) → Reads b 0 ws p → IsTable 2 ws has cap n used → 0 < n → AreWords ws →
    Does T g (Ended (Picked has) (λ o. a) (λ o. o.picked ∷ []) (λ o. p)) (5 * cap + 6) a (b ∷ cap ∷ n ∷ used ∷ []) p

-- ---- maps

-- the value at a key; the block is only read
pub record Looked (x : ℕ) (get : Values) : Type 0 where
  pub value : ℕ
  pub at_key : get x ≡ Some value
  pub is_word : value < 2 ^ 64

abbrev pub LookupLaw : Proc → Type 0
LookupLaw g =
    (T : List Proc) (b cap n used x : ℕ) (a ws : List ℕ) (has : Test) (get : Values) (p : Piece) → HasFind T → Reads b 0 ws p → IsTable 3 ws has cap n used → HasValues 3 ws cap get → has x ≡ true → AreWords ws →
    Does T g (Ended (Looked x get) (λ o. a) (λ o. o.value ∷ []) (λ o. p)) (find_steps cap + 6) a (b ∷ cap ∷ n ∷ used ∷ x ∷ []) p

-- a value at a key
abbrev pub PutLaw : Type 0
PutLaw =
    (T : List Proc) (b cap n used x v : ℕ) (a rest ws : List ℕ) (has : Test) (get : Values) (k : Piece) → HasFind T → find T (codes "lib_hmap_move") ≡ Some lib_hmap_move → IsTable 3 ws has cap n used → HasValues 3 ws cap get → n < 2 ^ 32 →
    AreWords ws → x < 2 ^ 64 → v < 2 ^ 64 → Claims 3 cap used x has a rest →
    Does T hmap_put (Ended (Inserted 3 n x has (put_value get x v)) (λ o. rest) (λ o. o.name ∷ o.cap ∷ o.keys ∷ o.used ∷ []) (λ o. plus (block o.name o.words) k)) (insert_steps cap) a (b ∷ cap ∷ n ∷ used ∷ x ∷ v ∷ []) (plus (block b ws) k)
