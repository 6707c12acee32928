use Rattle.target_meaning.proofs.Races.{no_race}
use Rattle.target_meaning.proofs.laws.fine_is_calm.Goals as goal

pub returns : goal.returns
returns c = no_race
