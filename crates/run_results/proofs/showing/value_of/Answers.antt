use Rattle.std.proofs.Common.{sym}
use Rattle.run_results.proofs.Values.{bare}
use Rattle.run_results.proofs.showing.value_of.Goals as goal

pub returns-else-has_block : goal.returns-else-has_block
returns-else-has_block g c = bare (g.S.Store.kept c.args.store.now).top c.args.rep c.args.regs.now c.decode.result (sym c.if-has_block.ensures) c.decode.ensures
