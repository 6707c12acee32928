use Rattle.proof_lines.proofs.Lengths.{as_many}
use Rattle.proof_lines.proofs.laws.as_many_lines.Goals as goal

pub returns : goal.returns
returns c = as_many
