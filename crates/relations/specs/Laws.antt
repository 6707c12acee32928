-- Laws of the layouts, as facts.
use Rattle.std.specs.Prelude.{◌≡◌, ℕ, suc, ◌^◌, ◌<◌, List, [], ◌∷◌, ◌++◌, Bool, true, length, replicate, codes}
use Rattle.std.specs.Prelude.{Some, None}
use Rattle.std.specs.FinMap as maps
use Rattle.containers.specs.Sets as sets
use Rattle.containers.specs.Bag.{Bag, bag_of}
use Rattle.nres_core.specs.declared.value.Value.{Value}
use Rattle.nres_core.specs.declared.value.Value.TheVariants as v
use Rattle.target_code.specs.declared.tree.Rep.{Rep}
use Rattle.target_code.specs.declared.tree.Rep.TheVariants as rep
use Rattle.target_meaning.specs.Piece.{Piece, Nil, none}
use Rattle.relations.specs.Blocks.{AreWords, block, Exactly, whole_piece}
use Rattle.relations.specs.Images.{Image, number, of_block, image, slots, placed, held}
use Rattle.relations.specs.Represents.{Represents, Set, Map, IsSmall}
use Rattle.relations.specs.ResultLines.{result_lines}
use Rattle.relations.specs.Samples.{OtherLayouts, set_of, gone_words, unreached_words}

abbrev pub Words : Type 0
Words = (n : ℕ) → n < 2 ^ 64 → Represents rep.Word (v.Nat n) (n ∷ []) none

abbrev pub OneBlock : Type 0
OneBlock = (b : ℕ) (ws us : List ℕ) (p : Piece) → Exactly (block b ws) p → Exactly (block b us) p → ws ≡ us

-- the second piece is the first without the name
pub record IsUnnamed (b : ℕ) (p q : Piece) : Type 0 where
  pub name : q b 0 ≡ Nil
  pub words : (i : ℕ) → q b (suc i) ≡ p b (suc i)
  pub others : (c j : ℕ) → (c ≡ b → ⊥) → q c j ≡ p c j

abbrev pub ArraysAndSlices : Type 0
ArraysAndSlices =
    (b off len : ℕ) (x : Value) (p q : Piece) → Represents rep.Array x (b ∷ off ∷ len ∷ []) p → IsUnnamed b p q
    → Represents rep.Slice x (b ∷ 0 ∷ len ∷ []) q

abbrev pub GoneState : Type 0
GoneState = (b : ℕ) → b < 2 ^ 64 → Represents rep.Hset (v.Set (set_of (0 ∷ 16 ∷ []))) (b ∷ 8 ∷ 2 ∷ 3 ∷ []) (whole_piece (block b gone_words))

abbrev pub OtherLayoutsSeen : Type 0
OtherLayoutsSeen = (b : ℕ) → b < 2 ^ 64 → OtherLayouts b

-- an element that is less than the one at half its index, and a bit from the bound on
abbrev pub NoHeap : Type 0
NoHeap = (b : ℕ) (h : Bag) → Represents rep.Heap (v.Bag h) (b ∷ 3 ∷ 3 ∷ []) (whole_piece (block b (2 ∷ 3 ∷ 1 ∷ []))) → ⊥

abbrev pub NoBits : Type 0
NoBits = (b n : ℕ) (s : Set) → Represents (rep.Bits 3) (v.Set s) (b ∷ n ∷ []) (whole_piece (block b (8 ∷ []))) → ⊥

abbrev pub UnreachedKey : Type 0
UnreachedKey = (b : ℕ) (regs : List ℕ) (x : Value) → Represents rep.Hset x regs (whole_piece (block b unreached_words)) → ⊥

pub record LinesSeen : Type 0 where
  pub none : result_lines [] ≡ []
  pub numbers : result_lines (v.Nat 7 ∷ v.Bool true ∷ []) ≡ codes "= 7" ++ 10 ∷ codes "= true" ++ 10 ∷ []
  pub list : result_lines (v.List (3 ∷ 1 ∷ 3 ∷ []) ∷ []) ≡ codes "= [3, 1, 3]" ++ 10 ∷ []
  pub set : (s : Set) → sets.items s ≡ 1 ∷ 3 ∷ [] → result_lines (v.Set s ∷ []) ≡ codes "= {1, 3}" ++ 10 ∷ []
  pub map : (m : Map) → maps.entries m ≡ (5, 2) ∷ (7, 0) ∷ [] → result_lines (v.Map m ∷ []) ≡ codes "= {5: 2, 7: 0}" ++ 10 ∷ []
  pub bag : result_lines (v.Bag (bag_of (3 ∷ 1 ∷ 3 ∷ [])) ∷ []) ≡ codes "= bag [1, 3, 3]" ++ 10 ∷ []
  pub no_element : result_lines (v.List [] ∷ v.Bag (bag_of []) ∷ []) ≡ codes "= []" ++ 10 ∷ codes "= bag []" ++ 10 ∷ []
  pub no_key : (m : Map) → maps.entries m ≡ [] → result_lines (v.Map m ∷ []) ≡ codes "= {:}" ++ 10 ∷ []

pub record ImagesSeen : Type 0 where
  pub word : image rep.Word (v.Nat 7) ≡ Some (number 7)
  pub flag : image rep.Flag (v.Bool true) ≡ Some (number 1)
  pub array : image rep.Array (v.List (7 ∷ 8 ∷ [])) ≡ Some (of_block (0 ∷ 2 ∷ []) (7 ∷ 8 ∷ []))
  pub no_vec : image rep.Vec (v.List []) ≡ Some (of_block (0 ∷ 4 ∷ []) (0 ∷ 0 ∷ 0 ∷ 0 ∷ []))
  pub vec : image rep.Vec (v.List (1 ∷ 2 ∷ 3 ∷ 4 ∷ 5 ∷ [])) ≡ Some (of_block (5 ∷ 5 ∷ []) (1 ∷ 2 ∷ 3 ∷ 4 ∷ 5 ∷ []))
  pub heap : image rep.Heap (v.Bag (bag_of (3 ∷ 1 ∷ 2 ∷ []))) ≡ Some (of_block (3 ∷ 4 ∷ []) (1 ∷ 2 ∷ 3 ∷ 0 ∷ []))
  pub bits : (s : Set) → sets.items s ≡ 3 ∷ 69 ∷ [] → image (rep.Bits 70) (v.Set s) ≡ Some (of_block (2 ∷ []) (8 ∷ 32 ∷ []))
  pub amap : (m : Map) → maps.entries m ≡ (1, 5) ∷ [] → image (rep.Amap 2) (v.Map m) ≡ Some (of_block (1 ∷ []) (0 ∷ 0 ∷ 1 ∷ 5 ∷ []))
  -- each key goes past the full states from its home on
  pub past : (s : Set) → sets.items s ≡ 0 ∷ 8 ∷ 16 ∷ [] → image rep.Hset (v.Set s) ≡ Some (of_block (8 ∷ 3 ∷ 3 ∷ []) (1 ∷ 0 ∷ 1 ∷ 8 ∷ 1 ∷ 16 ∷ replicate 10 0))
  -- and from the last slot round to the first
  pub round : (s : Set) → sets.items s ≡ 7 ∷ 15 ∷ [] → image rep.Hset (v.Set s) ≡ Some (of_block (8 ∷ 2 ∷ 2 ∷ []) (1 ∷ 15 ∷ replicate 12 0 ++ 1 ∷ 7 ∷ []))
  pub hmap : (m : Map) → maps.entries m ≡ (8, 4) ∷ [] → image rep.Hmap (v.Map m) ≡ Some (of_block (8 ∷ 1 ∷ 1 ∷ []) (1 ∷ 8 ∷ 4 ∷ replicate 21 0))
  -- three in four slots may be full
  pub fits : slots 6 ≡ 8
  pub doubled : slots 7 ≡ 16
  pub no_bit : (s : Set) → sets.items s ≡ 3 ∷ [] → image (rep.Bits 3) (v.Set s) ≡ None
  pub no_key : (m : Map) → maps.entries m ≡ (2, 5) ∷ [] → image (rep.Amap 2) (v.Map m) ≡ None
  pub no_slice : (xs : List ℕ) → image rep.Slice (v.List xs) ≡ None
  pub no_word : image rep.Word (v.Bool true) ≡ None

-- a value has an image, which represents it whatever the name of its block is
pub record IsEncoded (r : Rep) (x : Value) : Type 0 where
  pub has : Image
  pub same : image r x ≡ Some has
  pub represents : (b : ℕ) → b < 2 ^ 64 → Represents r x (placed b has) (held b has.block)

pub record ImagesRepresent : Type 0 where
  pub number : (n : ℕ) → n < 2 ^ 64 → IsEncoded rep.Word (v.Nat n)
  pub truth : (b : Bool) → IsEncoded rep.Flag (v.Bool b)
  pub array : (xs : List ℕ) → AreWords xs → IsSmall (length xs) → IsEncoded rep.Array (v.List xs)
  pub vec : (xs : List ℕ) → AreWords xs → IsSmall (length xs) → IsEncoded rep.Vec (v.List xs)
  pub heap : (h : Bag) → AreWords h.list → IsSmall (length h.list) → IsEncoded rep.Heap (v.Bag h)

-- the image of a hash table whose keys go past full states, and that of two words of bits, represent their sets
pub record SetsEncoded : Type 0 where
  pub hset : (s : Set) → sets.items s ≡ 0 ∷ 8 ∷ 16 ∷ [] → IsEncoded rep.Hset (v.Set s)
  pub bits : (s : Set) → sets.items s ≡ 3 ∷ 69 ∷ [] → IsEncoded (rep.Bits 70) (v.Set s)

-- the same for a map below a bound and a map in a hash table
pub record MapsEncoded : Type 0 where
  pub amap : (m : Map) → maps.entries m ≡ (1, 5) ∷ [] → IsEncoded (rep.Amap 2) (v.Map m)
  pub hmap : (m : Map) → maps.entries m ≡ (8, 4) ∷ [] → IsEncoded rep.Hmap (v.Map m)
