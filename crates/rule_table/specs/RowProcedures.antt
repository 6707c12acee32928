-- The procedures that the rows of the table name, and what each may claim.
use Rattle.std.specs.Prelude.{ℕ, ◌+◌, ◌*◌, ◌/◌, List, Option, Some}
use Rattle.nres_core.specs.declared.row.LibName.{LibName}
use Rattle.nres_core.specs.declared.row.LibName.TheVariants as l
use Rattle.nres_core.specs.declared.value.Value.{Value}
use Rattle.target_code.specs.declared.tree.Proc.{Proc}
use Rattle.row_laws.specs.Rows.{no_claim, by_register, if_full}
use Rattle.op_arrays.specs.Arrays as arrays
use Rattle.op_arrays.specs.Vecs as vecs
use Rattle.op_bits.specs.Bits as bits
use Rattle.op_bits.specs.Maps as amap
use Rattle.op_hash.specs.Rules.{set_growth, map_growth, all_slots}
use Rattle.op_hash.specs.Texts as tables
use Rattle.op_heap.specs.Heap as heap

abbrev pub procedure : LibName → Proc
procedure l.ArrayZeros = arrays.array_zeros
procedure l.ArrayGet = arrays.array_get
procedure l.ArraySet = arrays.array_set
procedure l.ArraySwap = arrays.array_swap
procedure l.ArrayCopy = arrays.array_copy
procedure l.VecNil = vecs.vec_nil
procedure l.VecGet = vecs.vec_get
procedure l.VecSet = vecs.vec_set
procedure l.VecSwap = vecs.vec_swap
procedure l.VecPush = vecs.vec_push
procedure l.VecPop = vecs.vec_pop
procedure l.VecCopy = vecs.vec_copy
procedure l.BitsEmpty = bits.bits_empty
procedure l.BitsHas = bits.bits_has
procedure l.BitsInsert = bits.bits_insert
procedure l.BitsRemove = bits.bits_remove
procedure l.BitsPick = bits.bits_pick
procedure l.BitsUnion = bits.bits_union
procedure l.BitsElems = bits.bits_elems
procedure l.BitsCopy = bits.bits_copy
procedure l.HsetEmpty = tables.hset_empty
procedure l.HsetHas = tables.hset_has
procedure l.HsetInsert = tables.hset_insert
procedure l.HsetRemove = tables.hset_remove
procedure l.HsetPick = tables.hset_pick
procedure l.HsetElems = tables.hset_elems
procedure l.HsetCopy = tables.hset_copy
procedure l.AmapEmpty = amap.amap_empty
procedure l.AmapHas = amap.amap_has
procedure l.AmapLookup = amap.amap_lookup
procedure l.AmapPut = amap.amap_put
procedure l.AmapDel = amap.amap_del
procedure l.AmapKeys = amap.amap_keys
procedure l.AmapCopy = amap.amap_copy
procedure l.HmapEmpty = tables.hmap_empty
procedure l.HmapHas = tables.hmap_has
procedure l.HmapLookup = tables.hmap_lookup
procedure l.HmapPut = tables.hmap_put
procedure l.HmapDel = tables.hmap_del
procedure l.HmapKeys = tables.hmap_keys
procedure l.HmapCopy = tables.hmap_copy
procedure l.HeapEmpty = heap.heap_empty
procedure l.HeapAdd = heap.heap_add
procedure l.HeapMinimum = heap.heap_minimum
procedure l.HeapTakeMin = heap.heap_take_min
procedure l.HeapCopy = heap.heap_copy

-- always so many words
abbrev pub always : ℕ → List Value → List ℕ → Option ℕ
always n vs regs = Some n

-- the words of the one block that may be claimed, by the bound of sets and maps, the values and the registers; all others claim none
abbrev pub claims : ℕ → LibName → List Value → List ℕ → Option ℕ
claims u l.ArrayZeros = by_register 0
claims u l.ArrayCopy = by_register 2
claims u l.VecNil = always 4
claims u l.VecPush = if_full
claims u l.VecCopy = by_register 2
claims u l.BitsEmpty = always ((u + 63) / 64)
claims u l.BitsElems = by_register 1
claims u l.BitsCopy = always ((u + 63) / 64)
claims u l.HsetEmpty = always 16
claims u l.HsetInsert = set_growth
claims u l.HsetElems = by_register 2
claims u l.HsetCopy = all_slots 2
claims u l.AmapEmpty = always (2 * u)
claims u l.AmapKeys = by_register 1
claims u l.AmapCopy = always (2 * u)
claims u l.HmapEmpty = always 24
claims u l.HmapPut = map_growth
claims u l.HmapKeys = by_register 2
claims u l.HmapCopy = all_slots 3
claims u l.HeapEmpty = always 4
claims u l.HeapAdd = if_full
claims u l.HeapCopy = by_register 2
claims u _ = no_claim
