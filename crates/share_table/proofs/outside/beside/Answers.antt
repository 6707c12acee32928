use Rattle.share_table.proofs.Sums.{short_at}
use Rattle.share_table.proofs.Cut.{beside_more}
use Rattle.share_table.proofs.outside.beside.Goals as goal

pub keep_beside-requires-clause-short : goal.keep_beside-requires-clause-short
keep_beside-requires-clause-short c = (short_at c.args.entries.now c.loop-entry.entry-index c.loop-entry-test.true c.requires.short, tt)

pub loop-entry-preserved : goal.loop-entry-preserved
loop-entry-preserved c = beside_more c.args.entries.now c.loop-entry.entry-index c.args.taking c.loop-entry.table.items c.keep_beside.new.table.items c.loop-entry-test.true c.loop-entry.invariant c.in_ok-keep_beside.ensures
