use Rattle.std.specs.Prelude.{ℕ, ◌^◌, ◌<◌, List, [], ◌∷◌, ◌++◌}
use Rattle.std.proofs.Common.{refl}
use Rattle.rule_check.specs.Table as table
use Rattle.op_arrays.specs.Rules.{ArrayRows, SliceRows, VecRows}
use Rattle.op_arrays.proofs.ArrayRows.{array_rows, slice_rows}
use Rattle.op_arrays.proofs.VecRows.{vec_rows}
use Rattle.op_bits.specs.BitsRules.{BitsRows}
use Rattle.op_bits.specs.MapRules.{MapRows}
use Rattle.op_bits.proofs.BitsRows.{bits_rows}
use Rattle.op_bits.proofs.MapRows.{map_rows}
use Rattle.op_hash.specs.Rules.{HsetRows, HmapRows}
use Rattle.op_hash.proofs.HsetRows.{hset_rows}
use Rattle.op_hash.proofs.HmapRows.{hmap_rows}
use Rattle.op_heap.specs.Rules.{HeapRows}
use Rattle.op_heap.proofs.HeapRows.{heap_rows}
use Rattle.rule_check.specs.Table.{Rule}
use Rattle.rule_table.specs.Library.{library}
use Rattle.rule_table.specs.Sound.{Sound, AllSound}
use Rattle.rule_table.proofs.LibraryLemmas.{has_copy, has_push, has_has, has_insert, has_find, has_keys, has_set_move, has_map_move}

both : (u : ℕ) (xs ys : List Rule) → AllSound library u xs → AllSound library u ys → AllSound library u (xs ++ ys)
both u [] ys a b = b
both u (x ∷ xs) ys a b = (a.0, both u xs ys a.1 b)

array_sound : (u : ℕ) → ArrayRows library → AllSound library u table.array_rows
unfolding library Sound
array_sound u r = ((refl, r.zeros), ((refl, r.len), ((refl, r.get), ((refl, r.set), ((refl, r.swap), ((refl, r.copy), tt))))))

slice_sound : (u : ℕ) → SliceRows library → AllSound library u table.slice_rows
unfolding library Sound
slice_sound u r = ((refl, r.len), ((refl, r.get), ((refl, r.set), ((refl, r.swap), ((refl, r.copy), tt)))))

vec_sound : (u : ℕ) → VecRows library → AllSound library u table.vec_rows
unfolding library Sound
vec_sound u r = ((refl, r.nil), ((refl, r.len), ((refl, r.get), ((refl, r.set), ((refl, r.swap), ((refl, r.push), ((refl, r.pop), ((refl, r.copy), tt))))))))

bits_sound : (u : ℕ) → BitsRows library u → AllSound library u table.bits_rows
unfolding library Sound
bits_sound u r = ((refl, r.empty), ((refl, r.size), ((refl, r.has), ((refl, r.insert), ((refl, r.remove), ((refl, r.pick), ((refl, r.union), ((refl, r.elems), ((refl, r.copy), tt)))))))))

hset_sound : (u : ℕ) → HsetRows library → AllSound library u table.hset_rows
unfolding library Sound
hset_sound u r = ((refl, r.empty), ((refl, r.size), ((refl, r.has), ((refl, r.insert), ((refl, r.remove), ((refl, r.pick), ((refl, r.elems), ((refl, r.copy), tt))))))))

amap_sound : (u : ℕ) → MapRows library u → AllSound library u table.amap_rows
unfolding library Sound
amap_sound u r = ((refl, r.empty), ((refl, r.size), ((refl, r.has), ((refl, r.lookup), ((refl, r.put), ((refl, r.del), ((refl, r.keys), ((refl, r.copy), tt))))))))

hmap_sound : (u : ℕ) → HmapRows library → AllSound library u table.hmap_rows
unfolding library Sound
hmap_sound u r = ((refl, r.empty), ((refl, r.size), ((refl, r.has), ((refl, r.lookup), ((refl, r.put), ((refl, r.del), ((refl, r.keys), ((refl, r.copy), tt))))))))

heap_sound : (u : ℕ) → HeapRows library → AllSound library u table.heap_rows
unfolding library Sound
heap_sound u r = ((refl, r.empty), ((refl, r.add), ((refl, r.copy), ((refl, r.size), ((refl, r.minimum), ((refl, r.take_min), tt))))))

pub table_sound : (u : ℕ) → u < 2 ^ 32 → AllSound library u table.all_rows
table_sound u most =
    both u table.array_rows (table.slice_rows ++ (table.vec_rows ++ (table.bits_rows ++ (table.hset_rows ++ (table.amap_rows ++ (table.hmap_rows ++ table.heap_rows)))))) (array_sound u (array_rows library has_copy))
    (both u table.slice_rows (table.vec_rows ++ (table.bits_rows ++ (table.hset_rows ++ (table.amap_rows ++ (table.hmap_rows ++ table.heap_rows))))) (slice_sound u (slice_rows library has_copy))
    (both u table.vec_rows (table.bits_rows ++ (table.hset_rows ++ (table.amap_rows ++ (table.hmap_rows ++ table.heap_rows)))) (vec_sound u (vec_rows library has_copy has_push))
    (both u table.bits_rows (table.hset_rows ++ (table.amap_rows ++ (table.hmap_rows ++ table.heap_rows))) (bits_sound u (bits_rows library has_copy has_has has_insert u most))
    (both u table.hset_rows (table.amap_rows ++ (table.hmap_rows ++ table.heap_rows)) (hset_sound u (hset_rows library has_copy has_find has_keys has_set_move))
    (both u table.amap_rows (table.hmap_rows ++ table.heap_rows) (amap_sound u (map_rows library has_copy u most))
    (both u table.hmap_rows table.heap_rows (hmap_sound u (hmap_rows library has_copy has_find has_keys has_map_move)) (heap_sound u (heap_rows library has_copy has_push))))))))
