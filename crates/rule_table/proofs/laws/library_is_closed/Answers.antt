use Rattle.rule_table.proofs.LibraryLemmas.{closed}
use Rattle.rule_table.proofs.laws.library_is_closed.Goals as goal

pub returns : goal.returns
returns c = closed
