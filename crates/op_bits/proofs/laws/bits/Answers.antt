use Rattle.op_bits.proofs.BitsLemmas.{empty_law, has_law, insert_law, remove_law, copy_words_law}
use Rattle.op_bits.proofs.Elems.{elems_law}
use Rattle.op_bits.proofs.Union.{pick_law, union_law}
use Rattle.op_bits.proofs.laws.bits.Goals as goal

pub returns : goal.returns
returns c = record { empty = empty_law; has = has_law; insert = insert_law; remove = remove_law; pick = pick_law; union = union_law; elems = elems_law; copy = copy_words_law }
