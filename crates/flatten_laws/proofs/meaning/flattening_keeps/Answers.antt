use Rattle.flatten_laws.proofs.Procs.{flattening_keeps}
use Rattle.flatten_laws.proofs.meaning.flattening_keeps.Goals as goal

pub returns : goal.returns
returns c = flattening_keeps
