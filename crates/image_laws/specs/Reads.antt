-- The value that registers and a whole block are read as.
use Rattle.std.specs.Prelude.{ℕ, ◌+◌, ◌*◌, ◌/◌, Bool, true, false, ◌&&◌, List, length, take, ◌==◌, if◌then◌else◌, slice_index, Option, Some, None}
use Rattle.std.specs.FinMap as maps
use Rattle.containers.specs.Bag.{bag_of}
use Rattle.containers.specs.Sets as sets
use Rattle.nres_core.specs.declared.value.Value.{Value}
use Rattle.nres_core.specs.declared.value.Value.TheVariants as v
use Rattle.target_code.specs.declared.tree.Rep.{Rep}
use Rattle.target_code.specs.declared.tree.Rep.TheVariants as rep
use Rattle.image_laws.specs.Held.{is_small, in_front, is_heap, bits_below, bounded_bits, marks_below, are_marks, slot_keys, slot_entries, is_table}

-- a value where a test passes
abbrev pub only_if : Bool → Value → Option Value
only_if b x = if b then Some x else None

abbrev pub flag_of : ℕ → Option Value
flag_of r = if r == 0 then Some (v.Bool false) else (if r == 1 then Some (v.Bool true) else None)

abbrev pub array_of : ℕ → ℕ → List ℕ → Option Value
array_of off len ws = only_if (off == 0 && (len == length ws && is_small len)) (v.List ws)

abbrev pub vec_of : ℕ → ℕ → List ℕ → Option Value
vec_of len cap ws = only_if (in_front len cap ws) (v.List (take len ws))

abbrev pub heap_of : ℕ → ℕ → List ℕ → Option Value
heap_of len cap ws = only_if (in_front len cap ws && is_heap len ws) (v.Bag (bag_of (take len ws)))

abbrev pub bits_of : ℕ → ℕ → List ℕ → Option Value
bits_of u n ws =
    only_if (length ws == (u + 63) / 64 && (bounded_bits u ws && (n == sets.len (bits_below ws (64 * length ws)) && is_small n))) (v.Set (bits_below ws (64 * length ws)))

abbrev pub amap_of : ℕ → ℕ → List ℕ → Option Value
amap_of u n ws = only_if (length ws == 2 * u && (are_marks u ws && (n == maps.len (marks_below ws u) && is_small n))) (v.Map (marks_below ws u))

-- keys that stand twice are fewer than full slots
abbrev pub hset_of : ℕ → ℕ → ℕ → List ℕ → Option Value
hset_of cap n used ws = only_if (is_table 2 cap n used ws && (n == sets.len (slot_keys 2 ws cap) && is_small n)) (v.Set (slot_keys 2 ws cap))

abbrev pub hmap_of : ℕ → ℕ → ℕ → List ℕ → Option Value
hmap_of cap n used ws = only_if (is_table 3 cap n used ws && (n == maps.len (slot_entries ws cap) && is_small n)) (v.Map (slot_entries ws cap))

-- registers, as many as the representation has, and the words of a block if there is one; a slice is no whole block
abbrev pub reads : Rep → List ℕ → Option (List ℕ) → Option Value
reads rep.Word regs None = Some (v.Nat (slice_index regs 0))
reads rep.Flag regs None = flag_of (slice_index regs 0)
reads rep.Array regs (Some ws) = array_of (slice_index regs 1) (slice_index regs 2) ws
reads rep.Vec regs (Some ws) = vec_of (slice_index regs 1) (slice_index regs 2) ws
reads (rep.Bits u) regs (Some ws) = bits_of u (slice_index regs 1) ws
reads rep.Hset regs (Some ws) = hset_of (slice_index regs 1) (slice_index regs 2) (slice_index regs 3) ws
reads (rep.Amap u) regs (Some ws) = amap_of u (slice_index regs 1) ws
reads rep.Hmap regs (Some ws) = hmap_of (slice_index regs 1) (slice_index regs 2) (slice_index regs 3) ws
reads rep.Heap regs (Some ws) = heap_of (slice_index regs 1) (slice_index regs 2) ws
reads _ regs block = None
