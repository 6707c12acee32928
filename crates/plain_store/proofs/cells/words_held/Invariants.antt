use Rattle.std.proofs.Common.{◌≡◌}
use Rattle.branch_exec.specs.Stores.{words_whole}
use Rattle.plain_store.specs.Cells.{top_of}
use Rattle.plain_store.proofs.cells.words_held.Given as goal

abbrev pub invariant-words : goal.invariant-words
invariant-words l = words_whole (top_of l.cells l.border l.block) l.left ≡ words_whole (top_of l.cells l.border l.block) l.len

abbrev pub decreases-words : goal.decreases-words
decreases-words l = l.left
