use Rattle.target_meaning.proofs.Shares.{plus-comm, plus-assoc, plus-none}
use Rattle.target_meaning.proofs.laws.unions.Goals as goal

pub returns : goal.returns
returns c = record { commutes = plus-comm; associates = plus-assoc; unit = plus-none }
