use Rattle.std.proofs.Common.{length, arith}
use Rattle.context_laws.proofs.StacksLemmas.{lent_seen}
use Rattle.context_laws.proofs.laws.lends_all.Goals as goal

pub returns : goal.returns
returns c = λ k ss. lent_seen (length ss) k ss (omega arith)
