use Rattle.std.proofs.Common.{◌∙◌, sym, arith}
use Rattle.decoding.proofs.Loops.{are_slots}
use Rattle.decoding.proofs.tables.map.Goals as goal

pub entries_in-requires : goal.entries_in-requires
entries_in-requires c = are_slots 3 c.args.capacity c.args.count c.args.used c.args.words.now (omega arith) (omega arith) (sym c.is_table.ensures ∙ c.if-not-is_table.false)
