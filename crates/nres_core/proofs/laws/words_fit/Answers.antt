use Rattle.nres_core.proofs.OperationsLemmas as operations
use Rattle.nres_core.proofs.laws.words_fit.Goals as goal

pub returns : goal.returns
returns c = operations.words_fit
