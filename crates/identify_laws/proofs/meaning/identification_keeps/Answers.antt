use Rattle.identify_laws.proofs.Wholes.{identification_keeps}
use Rattle.identify_laws.proofs.meaning.identification_keeps.Goals as goal

pub returns : goal.returns
returns c = identification_keeps
