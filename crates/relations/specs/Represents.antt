-- When registers and a piece of a heap represent a value: the ten layouts.
use Rattle.std.specs.Prelude.{◌≡◌, ℕ, zero, suc, ◌+◌, ◌-◌, ◌*◌, ◌/◌, ◌%◌, ◌^◌, ◌<◌, ◌≤◌, Bool, true, not, List, [], ◌∷◌, length, take, ◌==◌, if◌then◌else◌, slice_index, Some}
use Rattle.std.specs.FinMap as maps
use Rattle.std.specs.FinSet as sets
use Rattle.std.specs.Int.{bit_at}
use Rattle.std.specs.Ordering.{nat_cmp}
use Rattle.containers.specs.Bag.{Bag, bag_of}
use Rattle.nres_core.specs.declared.value.Value.{Value}
use Rattle.nres_core.specs.declared.value.Value.TheVariants as v
use Rattle.target_code.specs.declared.tree.Rep.{Rep}
use Rattle.target_code.specs.declared.tree.Rep.TheVariants as rep
use Rattle.target_meaning.specs.Piece.{Piece}
use Rattle.relations.specs.Blocks.{AreWords, nothing, block, range, Exactly}

abbrev pub Set : Type 0
Set = sets.FinSet nat_cmp

abbrev pub Map : Type 0
Map = maps.FinMap nat_cmp ℕ

-- a truth value as a number
abbrev pub one_if : Bool → ℕ
one_if b = if b then 1 else 0

-- how many numbers below n pass a test
abbrev pub count : (ℕ → Bool) → ℕ → ℕ
count test zero = 0
count test (suc n) = one_if (test n) + count test n

-- a container has fewer than 2^32 elements, repeats counted
abbrev pub IsSmall : ℕ → Type 0
IsSmall n = n < 2 ^ 32

-- ---- numbers and truth values, in one register

-- the number itself; nothing is held
pub record IsWord (n r : ℕ) (p : Piece) : Type 0 where
  pub same : r ≡ n
  pub word : n < 2 ^ 64
  pub empty : Exactly nothing p

-- 1 or 0; nothing is held
pub record IsFlag (b : Bool) (r : ℕ) (p : Piece) : Type 0 where
  pub same : r ≡ one_if b
  pub empty : Exactly nothing p

-- ---- lists

-- a whole block of the elements; the offset is 0
pub record IsArray (xs : List ℕ) (b off len : ℕ) (p : Piece) : Type 0 where
  pub piece : Exactly (block b xs) p
  pub words : AreWords xs
  pub offset : off ≡ 0
  pub count : len ≡ length xs
  pub small : IsSmall (length xs)

-- the elements in a range of a block, without the block's name
pub record IsSlice (xs : List ℕ) (b off len : ℕ) (p : Piece) : Type 0 where
  pub piece : Exactly (range b off xs) p
  pub words : AreWords xs
  pub count : len ≡ length xs
  pub small : IsSmall (length xs)

-- the elements in front of a block, whose other words are any
pub record IsVec (xs : List ℕ) (b len cap : ℕ) (p : Piece) : Type 0 where
  pub block_words : List ℕ
  pub piece : Exactly (block b block_words) p
  pub words : AreWords block_words
  pub capacity : cap ≡ length block_words
  pub room : 1 ≤ cap
  pub fits : len ≤ cap
  pub elements : take len block_words ≡ xs
  pub small : IsSmall len

-- ---- sets and maps below a bound

-- a bit for each number below u, the lowest bit first; all other bits are 0
pub record IsBits (u : ℕ) (s : Set) (b n : ℕ) (p : Piece) : Type 0 where
  pub block_words : List ℕ
  pub piece : Exactly (block b block_words) p
  pub words : AreWords block_words
  pub size : length block_words ≡ (u + 63) / 64
  pub bits : (x : ℕ) → x / 64 < length block_words → bit_at (slice_index block_words (x / 64)) (x % 64) ≡ one_if (sets.contains s x)
  pub bounded : (x : ℕ) → sets.contains s x ≡ true → x < u
  pub count : n ≡ sets.len s
  pub small : IsSmall (sets.len s)

-- a mark and a value for each number below u; where the mark is 0 the value is any
pub record IsAmap (u : ℕ) (m : Map) (b n : ℕ) (p : Piece) : Type 0 where
  pub block_words : List ℕ
  pub piece : Exactly (block b block_words) p
  pub words : AreWords block_words
  pub size : length block_words ≡ 2 * u
  pub marks : (k : ℕ) → k < u → slice_index block_words (2 * k) ≡ one_if (maps.contains_key m k)
  pub values : (k x : ℕ) → k < u → maps.get m k ≡ Some x → slice_index block_words (2 * k + 1) ≡ x
  pub bounded : (k : ℕ) → maps.contains_key m k ≡ true → k < u
  pub count : n ≡ maps.len m
  pub small : IsSmall (maps.len m)

-- ---- hash tables: slots of w words, which are a state (0 empty, 1 full, 2 gone), a key and in maps a value

module _ (w : ℕ) (ws : List ℕ) where
  abbrev pub state : ℕ → ℕ
  state i = slice_index ws (w * i)

  abbrev pub key : ℕ → ℕ
  key i = slice_index ws (w * i + 1)

  abbrev pub value : ℕ → ℕ
  value i = slice_index ws (w * i + 2)

  abbrev pub is_full : ℕ → Bool
  is_full i = state i == 1

  -- full or gone
  abbrev pub is_used : ℕ → Bool
  is_used i = not (state i == 0)

  -- a key is reached from its home: so many slots on, upwards and round, it stands in a full one, and none on the way is empty
  pub record IsReached (cap x : ℕ) : Type 0 where
    pub steps : ℕ
    pub full : state ((x % cap + steps) % cap) ≡ 1
    pub same : key ((x % cap + steps) % cap) ≡ x
    pub way : (i : ℕ) → i < steps → state ((x % cap + i) % cap) ≡ 0 → ⊥

  -- a table of cap slots, a power of two from 8, of the keys that pass a test: n slots are full, and `used` are full or gone, but not all
  pub record IsTable (has : ℕ → Bool) (cap n used : ℕ) : Type 0 where
    pub power : (e : ℕ) × (cap ≡ 8 * 2 ^ e)
    pub size : length ws ≡ w * cap
    pub states : (i : ℕ) → i < cap → state i ≤ 2
    pub keys : (i : ℕ) → i < cap → state i ≡ 1 → has (key i) ≡ true
    pub once : (i j : ℕ) → i < cap → j < cap → state i ≡ 1 → state j ≡ 1 → key i ≡ key j → i ≡ j
    pub reached : (x : ℕ) → has x ≡ true → IsReached cap x
    pub full_are : n ≡ count is_full cap
    pub used_are : used ≡ count is_used cap
    pub open_slot : used < cap

-- a table of the elements
pub record IsHset (s : Set) (b cap n used : ℕ) (p : Piece) : Type 0 where
  pub block_words : List ℕ
  pub piece : Exactly (block b block_words) p
  pub words : AreWords block_words
  pub table : IsTable 2 block_words (sets.contains s) cap n used
  pub small : IsSmall (sets.len s)

-- a table of the keys, each with its value
pub record IsHmap (m : Map) (b cap n used : ℕ) (p : Piece) : Type 0 where
  pub block_words : List ℕ
  pub piece : Exactly (block b block_words) p
  pub words : AreWords block_words
  pub table : IsTable 3 block_words (maps.contains_key m) cap n used
  pub values : (i : ℕ) → i < cap → state 3 block_words i ≡ 1 → maps.get m (key 3 block_words i) ≡ Some (value 3 block_words i)
  pub small : IsSmall (maps.len m)

-- ---- multisets

-- the elements in front of a block, each at least the one at half its index; the other words are any
pub record IsHeap (h : Bag) (b len cap : ℕ) (p : Piece) : Type 0 where
  pub block_words : List ℕ
  pub piece : Exactly (block b block_words) p
  pub words : AreWords block_words
  pub capacity : cap ≡ length block_words
  pub room : 1 ≤ cap
  pub fits : len ≤ cap
  pub elements : bag_of (take len block_words) ≡ h
  pub order : (i : ℕ) → 1 ≤ i → i < len → slice_index block_words ((i - 1) / 2) ≤ slice_index block_words i
  pub small : IsSmall len

-- ---- all of them

-- so many registers, as many as the layout has
abbrev pub on_1 : (ℕ → Type 0) → List ℕ → Type 0
on_1 P (a ∷ []) = P a
on_1 P _ = ⊥

abbrev pub on_2 : (ℕ → ℕ → Type 0) → List ℕ → Type 0
on_2 P (a ∷ b ∷ []) = P a b
on_2 P _ = ⊥

abbrev pub on_3 : (ℕ → ℕ → ℕ → Type 0) → List ℕ → Type 0
on_3 P (a ∷ b ∷ c ∷ []) = P a b c
on_3 P _ = ⊥

abbrev pub on_4 : (ℕ → ℕ → ℕ → ℕ → Type 0) → List ℕ → Type 0
on_4 P (a ∷ b ∷ c ∷ d ∷ []) = P a b c d
on_4 P _ = ⊥

-- the layout of a value in a representation; there is none in a representation of another type
abbrev pub Layout : Rep → Value → List ℕ → Piece → Type 0
Layout rep.Word (v.Nat n) regs p = on_1 (λ r. IsWord n r p) regs
Layout rep.Flag (v.Bool b) regs p = on_1 (λ r. IsFlag b r p) regs
Layout rep.Array (v.List xs) regs p = on_3 (λ b off len. IsArray xs b off len p) regs
Layout rep.Slice (v.List xs) regs p = on_3 (λ b off len. IsSlice xs b off len p) regs
Layout rep.Vec (v.List xs) regs p = on_3 (λ b len cap. IsVec xs b len cap p) regs
Layout (rep.Bits u) (v.Set s) regs p = on_2 (λ b n. IsBits u s b n p) regs
Layout rep.Hset (v.Set s) regs p = on_4 (λ b cap n used. IsHset s b cap n used p) regs
Layout (rep.Amap u) (v.Map m) regs p = on_2 (λ b n. IsAmap u m b n p) regs
Layout rep.Hmap (v.Map m) regs p = on_4 (λ b cap n used. IsHmap m b cap n used p) regs
Layout rep.Heap (v.Bag h) regs p = on_3 (λ b len cap. IsHeap h b len cap p) regs
Layout _ _ regs p = ⊥

-- registers, which are words, and a piece represent a value
pub record Represents (r : Rep) (x : Value) (regs : List ℕ) (p : Piece) : Type 0 where
  pub registers : AreWords regs
  pub layout : Layout r x regs p
