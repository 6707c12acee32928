-- The library: all procedures and their helpers, by name.
use Rattle.std.specs.Prelude.{◌≡◌, ℕ, nat_lt, nat_le, nat_eq, Bool, true, false, IsTrue, ◌&&◌, ◌||◌, List, [], ◌∷◌, ◌++◌, Some}
use Rattle.std.specs.List.{list_all}
use Rattle.target_code.specs.Formed.{proc_names, procs_distinct, have_sizes, have_registers, all_calls_met, targets_distinct, blocks_nest}
use Rattle.target_code.specs.declared.tree.Proc.{Proc}
use Rattle.target_meaning.specs.Leaf.{find}
use Rattle.triple_logic.specs.Copy.{lib_copy}
use Rattle.op_base.specs.Push.{lib_push}
use Rattle.op_arrays.specs.Arrays as arrays
use Rattle.op_arrays.specs.Vecs as vecs
use Rattle.op_bits.specs.Bits as bits
use Rattle.op_bits.specs.Maps as amap
use Rattle.op_hash.specs.Texts as tables
use Rattle.op_heap.specs.Heap as heap

abbrev pub amap_procs : List Proc
amap_procs = amap.amap_copy ∷ amap.amap_del ∷ amap.amap_empty ∷ amap.amap_has ∷ amap.amap_keys ∷ amap.amap_lookup ∷ amap.amap_put ∷ []

abbrev pub array_procs : List Proc
array_procs = arrays.array_copy ∷ arrays.array_get ∷ arrays.array_set ∷ arrays.array_swap ∷ arrays.array_zeros ∷ []

abbrev pub bits_procs : List Proc
bits_procs =
    bits.bits_copy ∷ bits.bits_elems ∷ bits.bits_empty ∷ bits.bits_has ∷ bits.bits_insert ∷ bits.bits_pick ∷ bits.bits_remove ∷ bits.bits_union ∷ []

abbrev pub heap_procs : List Proc
heap_procs = heap.heap_add ∷ heap.heap_copy ∷ heap.heap_empty ∷ heap.heap_minimum ∷ heap.heap_take_min ∷ []

abbrev pub hmap_procs : List Proc
hmap_procs =
    tables.hmap_copy ∷ tables.hmap_del ∷ tables.hmap_empty ∷ tables.hmap_has ∷ tables.hmap_keys ∷ tables.hmap_lookup ∷ tables.hmap_put ∷ []

abbrev pub hset_procs : List Proc
hset_procs =
    tables.hset_copy ∷ tables.hset_elems ∷ tables.hset_empty ∷ tables.hset_has ∷ tables.hset_insert ∷ tables.hset_pick ∷ tables.hset_remove ∷ []

-- the helpers, each once, whoever calls them
abbrev pub helpers : List Proc
helpers = lib_copy ∷ tables.lib_find ∷ tables.lib_hmap_move ∷ tables.lib_hset_move ∷ tables.lib_keys ∷ lib_push ∷ []

abbrev pub vec_procs : List Proc
vec_procs = vecs.vec_copy ∷ vecs.vec_get ∷ vecs.vec_nil ∷ vecs.vec_pop ∷ vecs.vec_push ∷ vecs.vec_set ∷ vecs.vec_swap ∷ []

-- all of them
unfoldable pub library : List Proc
library = amap_procs ++ (array_procs ++ (bits_procs ++ (heap_procs ++ (hmap_procs ++ (hset_procs ++ (helpers ++ vec_procs))))))

-- ---- its order

-- whether a text stands before another, by their first difference
abbrev pub is_before : List ℕ → List ℕ → Bool
is_before [] [] = false
is_before [] (y ∷ ys) = true
is_before (x ∷ xs) [] = false
is_before (x ∷ xs) (y ∷ ys) = nat_lt x y || (nat_eq x y && is_before xs ys)

abbrev pub all_after : List ℕ → List Proc → Bool
all_after name [] = true
all_after name (p ∷ ps) = is_before name p.name && all_after p.name ps

-- each name stands before the next
abbrev pub ascends : List Proc → Bool
ascends [] = true
ascends (p ∷ ps) = all_after p.name ps

-- ---- what a list of procedures owes a program that takes it in

-- each procedure is found by its name
abbrev pub AllFound : List Proc → List Proc → Type 0
AllFound T [] = Unit {0}
AllFound T (p ∷ ps) = (find T p.name ≡ Some p) × AllFound T ps

-- no procedure has more registers than this
abbrev pub has_at_most : ℕ → List Proc → Bool
has_at_most n ps = list_all (λ p. nat_le p.regs n) ps

-- procedures as they stand in a formed program, closed under their calls
pub record IsClosed (T : List Proc) : Type 0 where
  pub ascending : ascends T ≡ true
  pub found : AllFound T T
  pub names : IsTrue (proc_names T)
  pub distinct : IsTrue (procs_distinct T)
  pub sizes : IsTrue (have_sizes T)
  pub few_registers : has_at_most 1000 T ≡ true
  pub registers : IsTrue (have_registers T)
  pub calls : IsTrue (all_calls_met T)
  pub targets : IsTrue (targets_distinct T)
  pub blocks : IsTrue (blocks_nest T)
