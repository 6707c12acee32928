-- The image that encoding gives of a value in a representation.
use Rattle.std.specs.Prelude.{ℕ, zero, suc, ◌+◌, ◌-◌, ◌*◌, ◌/◌, ◌%◌, ◌^◌, max, List, [], ◌∷◌, ◌++◌, length, drop, replicate, nat_lt, nat_le, ◌==◌, if◌then◌else◌, slice_index, slice_set}
use Rattle.std.specs.Prelude.{Option, Some, None}
use Rattle.std.specs.FinMap as maps
use Rattle.containers.specs.Sets as sets
use Rattle.std.specs.List.{list_all}
use Rattle.nres_core.specs.declared.value.Value.{Value}
use Rattle.nres_core.specs.declared.value.Value.TheVariants as v
use Rattle.target_code.specs.declared.tree.Rep.{Rep}
use Rattle.target_code.specs.declared.tree.Rep.TheVariants as rep
use Rattle.target_meaning.specs.Piece.{Piece, none}
use Rattle.relations.specs.Blocks.{block, whole_piece}
use Rattle.relations.specs.Represents.{one_if}

-- registers, and the words of a block where there is one; the first register is then 0 and waits for the block's name
pub record Image : Type 0 where
  pub regs : List ℕ
  pub block : Option (List ℕ)

-- one register
abbrev pub number : ℕ → Image
number n = record { regs = n ∷ []; block = None }

-- a block of these words, and the registers after that of its name
abbrev pub of_block : List ℕ → List ℕ → Image
of_block regs ws = record { regs = 0 ∷ regs; block = Some ws }

-- ---- lists and multisets

-- the capacity for so many elements: at least 4
abbrev pub room : ℕ → ℕ
room n = max 4 n

-- the elements in front of a block, whose other words are 0
abbrev pub roomy : List ℕ → Image
roomy xs = of_block (length xs ∷ room (length xs) ∷ []) (xs ++ replicate (room (length xs) - length xs) 0)

-- ---- sets and maps below a bound

-- the word i of a block of bits: the sum of the bits of the elements that lie in it
abbrev pub bit_word : List ℕ → ℕ → ℕ
bit_word [] i = 0
bit_word (x ∷ xs) i = (if x / 64 == i then 2 ^ (x % 64) else 0) + bit_word xs i

-- so many words from the word i on
abbrev pub bit_words : List ℕ → ℕ → ℕ → List ℕ
bit_words xs i zero = []
bit_words xs i (suc n) = bit_word xs i ∷ bit_words xs (suc i) n

-- words with these in place of those from the index i on
abbrev pub written : List ℕ → ℕ → List ℕ → List ℕ
written ws i [] = ws
written ws i (u ∷ us) = written (slice_set ws i u) (suc i) us

-- words with a mark and a value at each key
abbrev pub marked : List ℕ → List (ℕ × ℕ) → List ℕ
marked ws [] = ws
marked ws (e ∷ es) = marked (written ws (2 * e.0) (1 ∷ e.1 ∷ [])) es

-- an image where all keys are below the bound
abbrev pub bounded : ℕ → List ℕ → Image → Option Image
bounded u keys image = if list_all (λ x. nat_lt x u) keys then Some image else None

-- ---- hash tables: slots of w words

-- twice so many slots, until 3 in 4 hold n keys; that is after at most so many turns
abbrev pub slots_from : ℕ → ℕ → ℕ → ℕ
slots_from zero cap n = cap
slots_from (suc turns) cap n = if nat_le (4 * n) (3 * cap) then cap else slots_from turns (2 * cap) n

-- the slots for n keys: the least power of two from 8 of which 3 in 4 hold them
abbrev pub slots : ℕ → ℕ
slots n = slots_from n 8 n

module _ (w cap : ℕ) where
  -- the first slot from i on, upwards and round, whose state is 0, within so many turns
  abbrev pub open_slot : List ℕ → ℕ → ℕ → ℕ
  open_slot ws i zero = i
  open_slot ws i (suc turns) = if slice_index ws (w * i) == 0 then i else open_slot ws ((i + 1) % cap) turns

  -- a table into which entries are inserted one after the other: each is a key and the words after it
  abbrev pub inserted : List ℕ → List (ℕ × List ℕ) → List ℕ
  inserted ws [] = ws
  inserted ws (e ∷ es) = inserted (written ws (w * open_slot ws (e.0 % cap) cap) (1 ∷ e.0 ∷ e.1)) es

-- the entries of a set, which have no more words, and of a map, which have the value
abbrev pub set_entries : List ℕ → List (ℕ × List ℕ)
set_entries [] = []
set_entries (x ∷ xs) = (x, []) ∷ set_entries xs

abbrev pub map_entries : List (ℕ × ℕ) → List (ℕ × List ℕ)
map_entries [] = []
map_entries (e ∷ es) = (e.0, e.1 ∷ []) ∷ map_entries es

-- a table of n entries; no state is gone
abbrev pub table : ℕ → ℕ → List (ℕ × List ℕ) → Image
table w n es = of_block (slots n ∷ n ∷ n ∷ []) (inserted w (slots n) (replicate (w * slots n) 0) es)

-- ---- all of them

abbrev pub keys_of : List (ℕ × ℕ) → List ℕ
keys_of [] = []
keys_of (e ∷ es) = e.0 ∷ keys_of es

-- the images of a set and a map, whose elements and entries are these, ascending
abbrev pub bits_image : ℕ → List ℕ → Option Image
bits_image u xs = bounded u xs (of_block (length xs ∷ []) (bit_words xs 0 ((u + 63) / 64)))

abbrev pub hset_image : List ℕ → Image
hset_image xs = table 2 (length xs) (set_entries xs)

abbrev pub amap_image : ℕ → List (ℕ × ℕ) → Option Image
amap_image u es = bounded u (keys_of es) (of_block (length es ∷ []) (marked (replicate (2 * u) 0) es))

abbrev pub hmap_image : List (ℕ × ℕ) → Image
hmap_image es = table 3 (length es) (map_entries es)

-- the image of a value in a representation: of a slice, of a value of another type and of a key that is not below the bound there is none
abbrev pub image : Rep → Value → Option Image
image rep.Word (v.Nat n) = Some (number n)
image rep.Flag (v.Bool b) = Some (number (one_if b))
image rep.Array (v.List xs) = Some (of_block (0 ∷ length xs ∷ []) xs)
image rep.Vec (v.List xs) = Some (roomy xs)
image (rep.Bits u) (v.Set s) = bits_image u (sets.items s)
image rep.Hset (v.Set s) = Some (hset_image (sets.items s))
image (rep.Amap u) (v.Map m) = amap_image u (maps.entries m)
image rep.Hmap (v.Map m) = Some (hmap_image (maps.entries m))
image rep.Heap (v.Bag h) = Some (roomy h.list)
image _ _ = None

-- registers with a name in the place of the first where there is a block
abbrev pub named : ℕ → Option (List ℕ) → List ℕ → List ℕ
named b None regs = regs
named b (Some ws) regs = b ∷ drop 1 regs

-- the registers of an image whose block, if there is one, has this name
abbrev pub placed : ℕ → Image → List ℕ
placed b i = named b i.block i.regs

-- what is held of a block of this name, if there is one: all of it
abbrev pub held : ℕ → Option (List ℕ) → Piece
held b None = none
held b (Some ws) = whole_piece (block b ws)
