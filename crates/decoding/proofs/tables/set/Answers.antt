use Rattle.std.proofs.Common.{◌∙◌, sym, arith}
use Rattle.decoding.proofs.Loops.{are_slots}
use Rattle.decoding.proofs.tables.set.Goals as goal

pub keys_in-requires : goal.keys_in-requires
keys_in-requires c = are_slots 2 c.args.capacity c.args.count c.args.used c.args.words.now (omega arith) (omega arith) (sym c.is_table.ensures ∙ c.if-not-is_table.false)
