use Rattle.std.specs.Prelude.{◌≡◌, true, List, [], ◌∷◌, codes}
use Rattle.std.specs.List.{list_all}
use Rattle.std.proofs.Common.{refl, ◌∙◌}
use Rattle.target_code.specs.Lines.{is_below, all_below, calls_met, has_distinct_targets, code_passes, code_nests}
use Rattle.triple_logic.specs.Copy as copying
use Rattle.triple_logic.specs.Text.{Text, Stop}
use Rattle.op_arrays.specs.Arrays as arrays
use Rattle.op_arrays.specs.Vecs as vecs
use Rattle.op_base.specs.Push as push
use Rattle.op_bits.specs.Bits as bits
use Rattle.op_bits.specs.Maps as amap
use Rattle.op_hash.specs.Texts as tables
use Rattle.op_heap.specs.Heap as heap
use Rattle.rule_table.proofs.TextPasses.{AreTexts, all_pass, all_nest_texts, all_registers}
use Rattle.op_base.specs.Library.{HasCopy}
use Rattle.op_base.specs.Push.{HasPush}
use Rattle.op_bits.specs.Bits.{HasHas, HasInsert}
use Rattle.op_hash.specs.Laws.{HasFind, HasKeys}
use Rattle.op_hash.specs.Rules.{HasSetMove, HasMapMove}
use Rattle.rule_table.specs.Library.{library, AllFound, IsClosed}

pub has_copy : HasCopy library
unfolding library
has_copy = refl

pub has_push : HasPush library
unfolding library
has_push = refl

pub has_has : HasHas library
unfolding library
has_has = refl

pub has_insert : HasInsert library
unfolding library
has_insert = refl

pub has_find : HasFind library
unfolding library
has_find = refl

pub has_keys : HasKeys library
unfolding library
has_keys = refl

pub has_set_move : HasSetMove library
unfolding library
has_set_move = refl

pub has_map_move : HasMapMove library
unfolding library
has_map_move = refl

all_found : AllFound library library
unfolding library
all_found = (refl, (refl, (refl, (refl, (refl, (refl, (refl, (refl, (refl, (refl, (refl, (refl, (refl, (refl, (refl, (refl, (refl, (refl, (refl, (refl, (refl, (refl, (refl, (refl, (refl, (refl, (refl, (refl, (refl, (refl, (refl, (refl, (refl, (refl, (refl, (refl, (refl, (refl, (refl, (refl, (refl, (refl, (refl, (refl, (refl, (refl, (refl, (refl, (refl, (refl, (refl, (refl, tt))))))))))))))))))))))))))))))))))))))))))))))))))))

abbrev texts : List Text
texts = amap.copy_text ∷ amap.del_text ∷ amap.empty_text ∷ amap.has_text ∷ amap.keys_text ∷ amap.lookup_text ∷ amap.put_text ∷ arrays.copy_text ∷ arrays.get_text ∷ arrays.set_text ∷ arrays.swap_text ∷ arrays.zeros_text ∷ bits.copy_text ∷ bits.elems_text ∷ bits.empty_text ∷ bits.has_text ∷ bits.insert_text ∷ bits.pick_text ∷ bits.remove_text ∷ bits.union_text ∷ heap.add_text ∷ heap.copy_text ∷ heap.empty_text ∷ heap.minimum_text ∷ heap.take_text ∷ (tables.copy_text 3) ∷ (tables.del_text 3) ∷ (tables.empty_text 3) ∷ (tables.has_text 3) ∷ (tables.elems_text 3) ∷ tables.lookup_text ∷ (tables.put_text 3 (codes "lib_hmap_move") tables.set_value) ∷ (tables.copy_text 2) ∷ (tables.elems_text 2) ∷ (tables.empty_text 2) ∷ (tables.has_text 2) ∷ (tables.put_text 2 (codes "lib_hset_move") Stop) ∷ tables.pick_text ∷ (tables.del_text 2) ∷ copying.copy_text ∷ tables.find_text ∷ (tables.move_text 3 tables.move_pair) ∷ (tables.move_text 2 tables.move_key) ∷ tables.keys_text ∷ push.push_text ∷ vecs.copy_text ∷ vecs.get_text ∷ vecs.nil_text ∷ vecs.pop_text ∷ vecs.push_text ∷ vecs.set_text ∷ vecs.swap_text ∷ []

are_texts : AreTexts library texts
unfolding library
are_texts = (refl, (refl, (refl, (refl, (refl, (refl, (refl, (refl, (refl, (refl, (refl, (refl, (refl, (refl, (refl, (refl, (refl, (refl, (refl, (refl, (refl, (refl, (refl, (refl, (refl, (refl, (refl, (refl, (refl, (refl, (refl, (refl, (refl, (refl, (refl, (refl, (refl, (refl, (refl, (refl, (refl, (refl, (refl, (refl, (refl, (refl, (refl, (refl, (refl, (refl, (refl, (refl, tt))))))))))))))))))))))))))))))))))))))))))))))))))))

registers_below : list_all (λ p. code_passes (is_below p.regs) p.code) library ≡ true
unfolding library
registers_below = all_pass (λ p. is_below p.regs) library texts are_texts ∙ refl

results_below : list_all (λ p. all_below p.regs p.ret) library ≡ true
unfolding library
results_below = refl

all_met : list_all (λ p. code_passes (calls_met library) p.code) library ≡ true
unfolding library
all_met = all_pass (λ p. calls_met library) library texts are_texts ∙ refl

all_distinct : list_all (λ p. code_passes has_distinct_targets p.code) library ≡ true
unfolding library
all_distinct = all_pass (λ p. has_distinct_targets) library texts are_texts ∙ refl

all_nest : list_all (λ p. code_nests p.code 0) library ≡ true
unfolding library
all_nest = all_nest_texts library texts are_texts ∙ refl

pub closed : IsClosed library
unfolding library
closed = record {
  ascending = refl;
  found = all_found;
  names = refl;
  distinct = refl;
  sizes = refl;
  few_registers = refl;
  registers = all_registers (λ p. is_below p.regs) (λ p. all_below p.regs p.ret) library registers_below results_below;
  calls = all_met;
  targets = all_distinct;
  blocks = all_nest;
}
