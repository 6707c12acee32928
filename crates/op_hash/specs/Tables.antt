-- Facts of tables of any width: where a key is met, what values stand at keys, and the keys in the order of the slots.
use Rattle.std.specs.Prelude.{◌≡◌, ◌≢◌, ℕ, zero, suc, ◌+◌, ◌%◌, ◌^◌, ◌<◌, ◌≤◌, true, false, List, [], ◌∷◌, ◌++◌, length, slice_index, ◌==◌, if◌then◌else◌, Option, Some, None}
use Rattle.relations.specs.Blocks.{AreWords}
use Rattle.relations.specs.Represents.{IsTable, state, key, value, is_full}
use Rattle.op_base.specs.Counts.{Test, put}

-- the slot of key x after l steps from its home
abbrev pub walk : ℕ → ℕ → ℕ → ℕ
walk cap x l = (x % cap + l) % cap

-- none of the first l slots from its home is empty
abbrev pub NoEmpty : ℕ → List ℕ → ℕ → ℕ → ℕ → Type 0
NoEmpty w ws cap x l = (m : ℕ) → m < l → state w ws (walk cap x m) ≡ 0 → ⊥

-- the key's slot, or the first empty one on its way
pub record Found (w cap x : ℕ) (has : Test) (ws : List ℕ) : Type 0 where
  pub slot : ℕ
  pub within : slot < cap
  pub on : has x ≡ true → (state w ws slot ≡ 1) × (key w ws slot ≡ x)
  pub off : has x ≡ false → (l : ℕ) × (slot ≡ walk cap x l) × (state w ws slot ≡ 0) × NoEmpty w ws cap x l

-- the value at each key
abbrev pub Values : Type 0
Values = ℕ → Option ℕ

-- a value at one key
abbrev pub put_value : Values → ℕ → ℕ → Values
put_value get x v y = if y == x then Some v else get y

-- no value at one key
abbrev pub del_value : Values → ℕ → Values
del_value get x y = if y == x then None else get y

-- where slots have a value, that of each full slot but perhaps one is the value at its key
abbrev pub HasOthers : ℕ → List ℕ → ℕ → Values → ℕ → Type 0
HasOthers w ws cap get slot = 3 ≤ w → (i : ℕ) → i < cap → i ≢ slot → state w ws i ≡ 1 → get (key w ws i) ≡ Some (value w ws i)

-- the same of each full slot
abbrev pub HasValues : ℕ → List ℕ → ℕ → Values → Type 0
HasValues w ws cap get = 3 ≤ w → (i : ℕ) → i < cap → state w ws i ≡ 1 → get (key w ws i) ≡ Some (value w ws i)

-- the keys of the first so many slots, in order
abbrev pub keys_of : ℕ → List ℕ → ℕ → List ℕ
keys_of w ws zero = []
keys_of w ws (suc i) = if is_full w ws i then keys_of w ws i ++ key w ws i ∷ [] else keys_of w ws i

-- each number that passes a test, once
pub record IsEach (has : Test) (ks : List ℕ) : Type 0 where
  pub pass : (i : ℕ) → i < length ks → has (slice_index ks i) ≡ true
  pub all : (x : ℕ) → has x ≡ true → (i : ℕ) × (i < length ks) × (slice_index ks i ≡ x)
  pub once : (i j : ℕ) → i < length ks → j < length ks → slice_index ks i ≡ slice_index ks j → i ≡ j

-- a table in a new block
pub record NewTable (w cap n used : ℕ) (has : Test) (get : Values) : Type 0 where
  pub name : ℕ
  pub words : List ℕ
  pub table : IsTable w words has cap n used
  pub values : HasValues w words cap get
  pub are_words : AreWords words
  pub short : length words < 2 ^ 64

-- a table with a key, in its block or a new one
pub record Inserted (w n x : ℕ) (has : Test) (get : Values) : Type 0 where
  pub name : ℕ
  pub cap : ℕ
  pub keys : ℕ
  pub used : ℕ
  pub words : List ℕ
  pub table : IsTable w words (put has x) cap keys used
  pub counted : keys ≡ (if has x then n else suc n)
  pub values : HasValues w words cap get
  pub are_words : AreWords words
  pub short : length words < 2 ^ 64
