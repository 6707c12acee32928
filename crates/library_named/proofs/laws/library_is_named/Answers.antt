use Rattle.library_named.proofs.NamesLemmas.{library_is_named}
use Rattle.library_named.proofs.laws.library_is_named.Goals as goal

pub returns : goal.returns
returns c = library_is_named
