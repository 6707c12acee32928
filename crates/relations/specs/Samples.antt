-- Small layouts.
use Rattle.std.specs.Prelude.{ℕ, true, List, [], ◌∷◌}
use Rattle.std.specs.FinMap as maps
use Rattle.std.specs.FinSet as sets
use Rattle.containers.specs.Bag.{bag_of}
use Rattle.nres_core.specs.declared.value.Value.TheVariants as v
use Rattle.target_code.specs.declared.tree.Rep.TheVariants as rep
use Rattle.target_meaning.specs.Piece.{none}
use Rattle.relations.specs.Blocks.{block, range, whole_piece}
use Rattle.relations.specs.Represents.{Set, Map, Represents}

abbrev pub set_of : List ℕ → Set
set_of = sets.from_list

-- eight slots of a set: 0 and 16, which share their home, with a slot between them whose key 8 was removed
abbrev pub gone_words : List ℕ
gone_words = 1 ∷ 0 ∷ 2 ∷ 8 ∷ 1 ∷ 16 ∷ 0 ∷ 0 ∷ 0 ∷ 0 ∷ 0 ∷ 0 ∷ 0 ∷ 0 ∷ 0 ∷ 0 ∷ []

-- eight slots, in which 16 does not stand at its home 0, which is empty
abbrev pub unreached_words : List ℕ
unreached_words = 0 ∷ 0 ∷ 1 ∷ 16 ∷ 0 ∷ 0 ∷ 0 ∷ 0 ∷ 0 ∷ 0 ∷ 0 ∷ 0 ∷ 0 ∷ 0 ∷ 0 ∷ 0 ∷ []

abbrev pub map_of : List (ℕ × ℕ) → Map
map_of = maps.from_entries

-- eight slots of a map: 8 with the value 4, and a slot that is gone, whose key and value are any
abbrev pub pair_words : List ℕ
pair_words = 1 ∷ 8 ∷ 4 ∷ 2 ∷ 8 ∷ 7 ∷ 0 ∷ 6 ∷ 5 ∷ 0 ∷ 0 ∷ 0 ∷ 0 ∷ 0 ∷ 0 ∷ 0 ∷ 0 ∷ 0 ∷ 0 ∷ 0 ∷ 0 ∷ 0 ∷ 0 ∷ 0 ∷ []

-- layouts that no encoding makes: words that are open are not 0, or the heap's order is another
pub record OtherLayouts (b : ℕ) : Type 0 where
  pub flag : Represents rep.Flag (v.Bool true) (1 ∷ []) none
  pub vec : Represents rep.Vec (v.List (3 ∷ 1 ∷ [])) (b ∷ 2 ∷ 3 ∷ []) (whole_piece (block b (3 ∷ 1 ∷ 9 ∷ [])))
  pub bits : Represents (rep.Bits 70) (v.Set (set_of (3 ∷ 69 ∷ []))) (b ∷ 2 ∷ []) (whole_piece (block b (8 ∷ 32 ∷ [])))
  pub amap : Represents (rep.Amap 2) (v.Map (map_of ((1, 5) ∷ []))) (b ∷ 1 ∷ []) (whole_piece (block b (0 ∷ 9 ∷ 1 ∷ 5 ∷ [])))
  pub slice : Represents rep.Slice (v.List (3 ∷ 1 ∷ [])) (b ∷ 5 ∷ 2 ∷ []) (whole_piece (range b 5 (3 ∷ 1 ∷ [])))
  pub hmap : Represents rep.Hmap (v.Map (map_of ((8, 4) ∷ []))) (b ∷ 8 ∷ 1 ∷ 2 ∷ []) (whole_piece (block b pair_words))
  pub heap : Represents rep.Heap (v.Bag (bag_of (3 ∷ 1 ∷ 2 ∷ []))) (b ∷ 3 ∷ 3 ∷ []) (whole_piece (block b (1 ∷ 3 ∷ 2 ∷ [])))
