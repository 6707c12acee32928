use Rattle.block_dir.proofs.Laws.{owns_written}
use Rattle.block_dir.proofs.tests.write_two.Goals as goal

pub write-requires-2-clause-held : goal.write-requires-2-clause-held
write-requires-2-clause-held c = rw c.write.ensures.written (owns_written _ _ _ _ _ c.requires.second)
