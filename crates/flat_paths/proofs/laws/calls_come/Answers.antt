use Rattle.flat_paths.proofs.Stated.{calls_come}
use Rattle.flat_paths.proofs.laws.calls_come.Goals as goal

pub returns : goal.returns
returns c = calls_come
