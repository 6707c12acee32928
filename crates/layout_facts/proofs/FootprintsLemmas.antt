-- The ten layouts.
use Rattle.std.proofs.Common.{ℕ, List, [], ◌∷◌, refl, ap}
use Rattle.std.specs.Prelude.{Some}
use Rattle.nres_core.specs.declared.value.Value.{Value}
use Rattle.nres_core.specs.declared.value.Value.TheVariants as v
use Rattle.target_code.specs.declared.tree.Rep.{Rep}
use Rattle.target_code.specs.declared.tree.Rep.TheVariants as rep
use Rattle.target_meaning.specs.Piece.{Piece}
use Rattle.relations.specs.Represents.{Represents}
use Rattle.layout_facts.specs.Footprints.{Empty, Block_of, Range_of, HasFootprint}

pub footprint_of : (r : Rep) (x : Value) (regs : List ℕ) (p : Piece) → Represents r x regs p → HasFootprint r x regs p
footprint_of rep.Word (v.Nat n) (w ∷ []) p h =
    let l = h.layout in
    record { footprint = Empty; exact = l.empty; wide = refl; part = λ c. cc c; bare = λ c. refl; again = λ q e. record { registers = h.registers; layout = record { same = l.same; word = l.word; empty = e } } }
footprint_of rep.Flag (v.Bool b) (w ∷ []) p h =
    let l = h.layout in
    record { footprint = Empty; exact = l.empty; wide = refl; part = λ c. cc c; bare = λ c. refl; again = λ q e. record { registers = h.registers; layout = record { same = l.same; empty = e } } }
footprint_of rep.Array (v.List xs) (b ∷ off ∷ len ∷ []) p h =
    let l = h.layout in
    record {
      footprint = Block_of b xs;
      exact = l.piece;
      wide = refl;
      part = λ c. refl;
      bare = λ c. cc c;
      again = λ q e. record { registers = h.registers; layout = record { piece = e; words = l.words; offset = l.offset; count = l.count; small = l.small } };
    }
footprint_of rep.Slice (v.List xs) (b ∷ off ∷ len ∷ []) p h =
    let l = h.layout in
    record {
      footprint = Range_of b off xs;
      exact = l.piece;
      wide = refl;
      part = λ c. ap (λ n. record { block = b; span = Some (off, n) }) l.count;
      bare = λ c. cc c;
      again = λ q e. record { registers = h.registers; layout = record { piece = e; words = l.words; count = l.count; small = l.small } };
    }
footprint_of rep.Vec (v.List xs) (b ∷ len ∷ cap ∷ []) p h =
    let l = h.layout in
    record {
      footprint = Block_of b l.block_words;
      exact = l.piece;
      wide = refl;
      part = λ c. refl;
      bare = λ c. cc c;
      again = λ q e. record { registers = h.registers; layout = record { block_words = l.block_words; piece = e; words = l.words; capacity = l.capacity; room = l.room; fits = l.fits; elements = l.elements; small = l.small } };
    }
footprint_of (rep.Bits u) (v.Set s) (b ∷ n ∷ []) p h =
    let l = h.layout in
    record {
      footprint = Block_of b l.block_words;
      exact = l.piece;
      wide = refl;
      part = λ c. refl;
      bare = λ c. cc c;
      again = λ q e. record { registers = h.registers; layout = record { block_words = l.block_words; piece = e; words = l.words; size = l.size; bits = l.bits; bounded = l.bounded; count = l.count; small = l.small } };
    }
footprint_of rep.Hset (v.Set s) (b ∷ cap ∷ n ∷ used ∷ []) p h =
    let l = h.layout in
    record {
      footprint = Block_of b l.block_words;
      exact = l.piece;
      wide = refl;
      part = λ c. refl;
      bare = λ c. cc c;
      again = λ q e. record { registers = h.registers; layout = record { block_words = l.block_words; piece = e; words = l.words; table = l.table; small = l.small } };
    }
footprint_of (rep.Amap u) (v.Map m) (b ∷ n ∷ []) p h =
    let l = h.layout in
    record {
      footprint = Block_of b l.block_words;
      exact = l.piece;
      wide = refl;
      part = λ c. refl;
      bare = λ c. cc c;
      again = λ q e. record { registers = h.registers; layout = record { block_words = l.block_words; piece = e; words = l.words; size = l.size; marks = l.marks; values = l.values; bounded = l.bounded; count = l.count; small = l.small } };
    }
footprint_of rep.Hmap (v.Map m) (b ∷ cap ∷ n ∷ used ∷ []) p h =
    let l = h.layout in
    record {
      footprint = Block_of b l.block_words;
      exact = l.piece;
      wide = refl;
      part = λ c. refl;
      bare = λ c. cc c;
      again = λ q e. record { registers = h.registers; layout = record { block_words = l.block_words; piece = e; words = l.words; table = l.table; values = l.values; small = l.small } };
    }
footprint_of rep.Heap (v.Bag a) (b ∷ len ∷ cap ∷ []) p h =
    let l = h.layout in
    record {
      footprint = Block_of b l.block_words;
      exact = l.piece;
      wide = refl;
      part = λ c. refl;
      bare = λ c. cc c;
      again = λ q e. record { registers = h.registers; layout = record { block_words = l.block_words; piece = e; words = l.words; capacity = l.capacity; room = l.room; fits = l.fits; elements = l.elements; order = l.order; small = l.small } };
    }
footprint_of r x regs p h = absurd h.layout
