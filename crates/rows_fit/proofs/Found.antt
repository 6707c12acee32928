-- The rows of the table with any list of procedures that finds those of the library.
use Rattle.std.specs.Prelude.{ℕ, ◌^◌, ◌<◌, List, [], ◌∷◌, ◌++◌}
use Rattle.std.proofs.Common.{refl}
use Rattle.rule_check.specs.Table as table
use Rattle.op_arrays.specs.Rules.{ArrayRows, SliceRows, VecRows}
use Rattle.op_arrays.proofs.ArrayRows.{array_rows, slice_rows}
use Rattle.op_arrays.proofs.VecRows.{vec_rows}
use Rattle.op_bits.specs.BitsRules.{BitsRows}
use Rattle.op_bits.specs.MapRules.{MapRows}
use Rattle.op_bits.proofs.BitsRows.{bits_rows}
use Rattle.op_bits.proofs.MapRows.{map_rows}
use Rattle.op_hash.specs.Rules.{HsetRows, HmapRows}
use Rattle.op_hash.proofs.HsetRows.{hset_rows}
use Rattle.op_hash.proofs.HmapRows.{hmap_rows}
use Rattle.op_heap.specs.Rules.{HeapRows}
use Rattle.op_heap.proofs.HeapRows.{heap_rows}
use Rattle.rule_check.specs.Table.{Rule}
use Rattle.rule_table.specs.Library.{library, AllFound}
use Rattle.rule_table.specs.Sound.{Sound, AllSound, IsFound}
use Rattle.target_code.specs.declared.tree.Proc.{Proc}
use Rattle.nres_core.specs.declared.row.LibName.{LibName}
use Rattle.nres_core.specs.declared.row.LibName.TheVariants as l
use Rattle.op_base.specs.Library.{HasCopy}
use Rattle.op_base.specs.Push.{HasPush}
use Rattle.op_bits.specs.Bits.{HasHas, HasInsert}
use Rattle.op_hash.specs.Laws.{HasFind, HasKeys}
use Rattle.op_hash.specs.Rules.{HasSetMove, HasMapMove}
use Rattle.rule_table.specs.RowProcedures.{procedure}

module _ (T : List Proc) where
  found : AllFound T library → (name : LibName) → IsFound T (procedure name)
  unfolding library
  found all l.ArrayZeros = all.1.1.1.1.1.1.1.1.1.1.1.0
  found all l.ArrayGet = all.1.1.1.1.1.1.1.1.0
  found all l.ArraySet = all.1.1.1.1.1.1.1.1.1.0
  found all l.ArraySwap = all.1.1.1.1.1.1.1.1.1.1.0
  found all l.ArrayCopy = all.1.1.1.1.1.1.1.0
  found all l.VecNil = all.1.1.1.1.1.1.1.1.1.1.1.1.1.1.1.1.1.1.1.1.1.1.1.1.1.1.1.1.1.1.1.1.1.1.1.1.1.1.1.1.1.1.1.1.1.1.1.0
  found all l.VecGet = all.1.1.1.1.1.1.1.1.1.1.1.1.1.1.1.1.1.1.1.1.1.1.1.1.1.1.1.1.1.1.1.1.1.1.1.1.1.1.1.1.1.1.1.1.1.1.0
  found all l.VecSet = all.1.1.1.1.1.1.1.1.1.1.1.1.1.1.1.1.1.1.1.1.1.1.1.1.1.1.1.1.1.1.1.1.1.1.1.1.1.1.1.1.1.1.1.1.1.1.1.1.1.1.0
  found all l.VecSwap = all.1.1.1.1.1.1.1.1.1.1.1.1.1.1.1.1.1.1.1.1.1.1.1.1.1.1.1.1.1.1.1.1.1.1.1.1.1.1.1.1.1.1.1.1.1.1.1.1.1.1.1.0
  found all l.VecPush = all.1.1.1.1.1.1.1.1.1.1.1.1.1.1.1.1.1.1.1.1.1.1.1.1.1.1.1.1.1.1.1.1.1.1.1.1.1.1.1.1.1.1.1.1.1.1.1.1.1.0
  found all l.VecPop = all.1.1.1.1.1.1.1.1.1.1.1.1.1.1.1.1.1.1.1.1.1.1.1.1.1.1.1.1.1.1.1.1.1.1.1.1.1.1.1.1.1.1.1.1.1.1.1.1.0
  found all l.VecCopy = all.1.1.1.1.1.1.1.1.1.1.1.1.1.1.1.1.1.1.1.1.1.1.1.1.1.1.1.1.1.1.1.1.1.1.1.1.1.1.1.1.1.1.1.1.1.0
  found all l.BitsEmpty = all.1.1.1.1.1.1.1.1.1.1.1.1.1.1.0
  found all l.BitsHas = all.1.1.1.1.1.1.1.1.1.1.1.1.1.1.1.0
  found all l.BitsInsert = all.1.1.1.1.1.1.1.1.1.1.1.1.1.1.1.1.0
  found all l.BitsRemove = all.1.1.1.1.1.1.1.1.1.1.1.1.1.1.1.1.1.1.0
  found all l.BitsPick = all.1.1.1.1.1.1.1.1.1.1.1.1.1.1.1.1.1.0
  found all l.BitsUnion = all.1.1.1.1.1.1.1.1.1.1.1.1.1.1.1.1.1.1.1.0
  found all l.BitsElems = all.1.1.1.1.1.1.1.1.1.1.1.1.1.0
  found all l.BitsCopy = all.1.1.1.1.1.1.1.1.1.1.1.1.0
  found all l.HsetEmpty = all.1.1.1.1.1.1.1.1.1.1.1.1.1.1.1.1.1.1.1.1.1.1.1.1.1.1.1.1.1.1.1.1.1.1.0
  found all l.HsetHas = all.1.1.1.1.1.1.1.1.1.1.1.1.1.1.1.1.1.1.1.1.1.1.1.1.1.1.1.1.1.1.1.1.1.1.1.0
  found all l.HsetInsert = all.1.1.1.1.1.1.1.1.1.1.1.1.1.1.1.1.1.1.1.1.1.1.1.1.1.1.1.1.1.1.1.1.1.1.1.1.0
  found all l.HsetRemove = all.1.1.1.1.1.1.1.1.1.1.1.1.1.1.1.1.1.1.1.1.1.1.1.1.1.1.1.1.1.1.1.1.1.1.1.1.1.1.0
  found all l.HsetPick = all.1.1.1.1.1.1.1.1.1.1.1.1.1.1.1.1.1.1.1.1.1.1.1.1.1.1.1.1.1.1.1.1.1.1.1.1.1.0
  found all l.HsetElems = all.1.1.1.1.1.1.1.1.1.1.1.1.1.1.1.1.1.1.1.1.1.1.1.1.1.1.1.1.1.1.1.1.1.0
  found all l.HsetCopy = all.1.1.1.1.1.1.1.1.1.1.1.1.1.1.1.1.1.1.1.1.1.1.1.1.1.1.1.1.1.1.1.1.0
  found all l.AmapEmpty = all.1.1.0
  found all l.AmapHas = all.1.1.1.0
  found all l.AmapLookup = all.1.1.1.1.1.0
  found all l.AmapPut = all.1.1.1.1.1.1.0
  found all l.AmapDel = all.1.0
  found all l.AmapKeys = all.1.1.1.1.0
  found all l.AmapCopy = all.0
  found all l.HmapEmpty = all.1.1.1.1.1.1.1.1.1.1.1.1.1.1.1.1.1.1.1.1.1.1.1.1.1.1.1.0
  found all l.HmapHas = all.1.1.1.1.1.1.1.1.1.1.1.1.1.1.1.1.1.1.1.1.1.1.1.1.1.1.1.1.0
  found all l.HmapLookup = all.1.1.1.1.1.1.1.1.1.1.1.1.1.1.1.1.1.1.1.1.1.1.1.1.1.1.1.1.1.1.0
  found all l.HmapPut = all.1.1.1.1.1.1.1.1.1.1.1.1.1.1.1.1.1.1.1.1.1.1.1.1.1.1.1.1.1.1.1.0
  found all l.HmapDel = all.1.1.1.1.1.1.1.1.1.1.1.1.1.1.1.1.1.1.1.1.1.1.1.1.1.1.0
  found all l.HmapKeys = all.1.1.1.1.1.1.1.1.1.1.1.1.1.1.1.1.1.1.1.1.1.1.1.1.1.1.1.1.1.0
  found all l.HmapCopy = all.1.1.1.1.1.1.1.1.1.1.1.1.1.1.1.1.1.1.1.1.1.1.1.1.1.0
  found all l.HeapEmpty = all.1.1.1.1.1.1.1.1.1.1.1.1.1.1.1.1.1.1.1.1.1.1.0
  found all l.HeapAdd = all.1.1.1.1.1.1.1.1.1.1.1.1.1.1.1.1.1.1.1.1.0
  found all l.HeapMinimum = all.1.1.1.1.1.1.1.1.1.1.1.1.1.1.1.1.1.1.1.1.1.1.1.0
  found all l.HeapTakeMin = all.1.1.1.1.1.1.1.1.1.1.1.1.1.1.1.1.1.1.1.1.1.1.1.1.0
  found all l.HeapCopy = all.1.1.1.1.1.1.1.1.1.1.1.1.1.1.1.1.1.1.1.1.1.0

  has_copy : AllFound T library → HasCopy T
  unfolding library
  has_copy all = all.1.1.1.1.1.1.1.1.1.1.1.1.1.1.1.1.1.1.1.1.1.1.1.1.1.1.1.1.1.1.1.1.1.1.1.1.1.1.1.0

  has_push : AllFound T library → HasPush T
  unfolding library
  has_push all = all.1.1.1.1.1.1.1.1.1.1.1.1.1.1.1.1.1.1.1.1.1.1.1.1.1.1.1.1.1.1.1.1.1.1.1.1.1.1.1.1.1.1.1.1.0

  has_has : AllFound T library → HasHas T
  unfolding library
  has_has all = all.1.1.1.1.1.1.1.1.1.1.1.1.1.1.1.0

  has_insert : AllFound T library → HasInsert T
  unfolding library
  has_insert all = all.1.1.1.1.1.1.1.1.1.1.1.1.1.1.1.1.0

  has_find : AllFound T library → HasFind T
  unfolding library
  has_find all = all.1.1.1.1.1.1.1.1.1.1.1.1.1.1.1.1.1.1.1.1.1.1.1.1.1.1.1.1.1.1.1.1.1.1.1.1.1.1.1.1.0

  has_keys : AllFound T library → HasKeys T
  unfolding library
  has_keys all = all.1.1.1.1.1.1.1.1.1.1.1.1.1.1.1.1.1.1.1.1.1.1.1.1.1.1.1.1.1.1.1.1.1.1.1.1.1.1.1.1.1.1.1.0

  has_set_move : AllFound T library → HasSetMove T
  unfolding library
  has_set_move all = all.1.1.1.1.1.1.1.1.1.1.1.1.1.1.1.1.1.1.1.1.1.1.1.1.1.1.1.1.1.1.1.1.1.1.1.1.1.1.1.1.1.1.0

  has_map_move : AllFound T library → HasMapMove T
  unfolding library
  has_map_move all = all.1.1.1.1.1.1.1.1.1.1.1.1.1.1.1.1.1.1.1.1.1.1.1.1.1.1.1.1.1.1.1.1.1.1.1.1.1.1.1.1.1.0

  both : (u : ℕ) (xs ys : List Rule) → AllSound T u xs → AllSound T u ys → AllSound T u (xs ++ ys)
  both u [] ys a b = b
  both u (x ∷ xs) ys a b = (a.0, both u xs ys a.1 b)

  array_sound : AllFound T library → (u : ℕ) → ArrayRows T → AllSound T u table.array_rows
  unfolding Sound
  array_sound all u r = ((found all l.ArrayZeros, r.zeros), ((refl, r.len), ((found all l.ArrayGet, r.get), ((found all l.ArraySet, r.set), ((found all l.ArraySwap, r.swap), ((found all l.ArrayCopy, r.copy), tt))))))

  slice_sound : AllFound T library → (u : ℕ) → SliceRows T → AllSound T u table.slice_rows
  unfolding Sound
  slice_sound all u r = ((refl, r.len), ((found all l.ArrayGet, r.get), ((found all l.ArraySet, r.set), ((found all l.ArraySwap, r.swap), ((found all l.ArrayCopy, r.copy), tt)))))

  vec_sound : AllFound T library → (u : ℕ) → VecRows T → AllSound T u table.vec_rows
  unfolding Sound
  vec_sound all u r = ((found all l.VecNil, r.nil), ((refl, r.len), ((found all l.VecGet, r.get), ((found all l.VecSet, r.set), ((found all l.VecSwap, r.swap), ((found all l.VecPush, r.push), ((found all l.VecPop, r.pop), ((found all l.VecCopy, r.copy), tt))))))))

  bits_sound : AllFound T library → (u : ℕ) → BitsRows T u → AllSound T u table.bits_rows
  unfolding Sound
  bits_sound all u r = ((found all l.BitsEmpty, r.empty), ((refl, r.size), ((found all l.BitsHas, r.has), ((found all l.BitsInsert, r.insert), ((found all l.BitsRemove, r.remove), ((found all l.BitsPick, r.pick), ((found all l.BitsUnion, r.union), ((found all l.BitsElems, r.elems), ((found all l.BitsCopy, r.copy), tt)))))))))

  hset_sound : AllFound T library → (u : ℕ) → HsetRows T → AllSound T u table.hset_rows
  unfolding Sound
  hset_sound all u r = ((found all l.HsetEmpty, r.empty), ((refl, r.size), ((found all l.HsetHas, r.has), ((found all l.HsetInsert, r.insert), ((found all l.HsetRemove, r.remove), ((found all l.HsetPick, r.pick), ((found all l.HsetElems, r.elems), ((found all l.HsetCopy, r.copy), tt))))))))

  amap_sound : AllFound T library → (u : ℕ) → MapRows T u → AllSound T u table.amap_rows
  unfolding Sound
  amap_sound all u r = ((found all l.AmapEmpty, r.empty), ((refl, r.size), ((found all l.AmapHas, r.has), ((found all l.AmapLookup, r.lookup), ((found all l.AmapPut, r.put), ((found all l.AmapDel, r.del), ((found all l.AmapKeys, r.keys), ((found all l.AmapCopy, r.copy), tt))))))))

  hmap_sound : AllFound T library → (u : ℕ) → HmapRows T → AllSound T u table.hmap_rows
  unfolding Sound
  hmap_sound all u r = ((found all l.HmapEmpty, r.empty), ((refl, r.size), ((found all l.HmapHas, r.has), ((found all l.HmapLookup, r.lookup), ((found all l.HmapPut, r.put), ((found all l.HmapDel, r.del), ((found all l.HmapKeys, r.keys), ((found all l.HmapCopy, r.copy), tt))))))))

  heap_sound : AllFound T library → (u : ℕ) → HeapRows T → AllSound T u table.heap_rows
  unfolding Sound
  heap_sound all u r = ((found all l.HeapEmpty, r.empty), ((found all l.HeapAdd, r.add), ((found all l.HeapCopy, r.copy), ((refl, r.size), ((found all l.HeapMinimum, r.minimum), ((found all l.HeapTakeMin, r.take_min), tt))))))

  pub table_sound : AllFound T library → (u : ℕ) → u < 2 ^ 32 → AllSound T u table.all_rows
  table_sound all u most =
      both u table.array_rows (table.slice_rows ++ (table.vec_rows ++ (table.bits_rows ++ (table.hset_rows ++ (table.amap_rows ++ (table.hmap_rows ++ table.heap_rows)))))) (array_sound all u (array_rows T (has_copy all)))
      (both u table.slice_rows (table.vec_rows ++ (table.bits_rows ++ (table.hset_rows ++ (table.amap_rows ++ (table.hmap_rows ++ table.heap_rows))))) (slice_sound all u (slice_rows T (has_copy all)))
      (both u table.vec_rows (table.bits_rows ++ (table.hset_rows ++ (table.amap_rows ++ (table.hmap_rows ++ table.heap_rows)))) (vec_sound all u (vec_rows T (has_copy all) (has_push all)))
      (both u table.bits_rows (table.hset_rows ++ (table.amap_rows ++ (table.hmap_rows ++ table.heap_rows))) (bits_sound all u (bits_rows T (has_copy all) (has_has all) (has_insert all) u most))
      (both u table.hset_rows (table.amap_rows ++ (table.hmap_rows ++ table.heap_rows)) (hset_sound all u (hset_rows T (has_copy all) (has_find all) (has_keys all) (has_set_move all)))
      (both u table.amap_rows (table.hmap_rows ++ table.heap_rows) (amap_sound all u (map_rows T (has_copy all) u most))
      (both u table.hmap_rows table.heap_rows (hmap_sound all u (hmap_rows T (has_copy all) (has_find all) (has_keys all) (has_map_move all))) (heap_sound all u (heap_rows T (has_copy all) (has_push all)))))))))
