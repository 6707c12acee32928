use Rattle.target_meaning.proofs.Cases.{fine_owned, fine_free, fine_or}
use Rattle.target_meaning.proofs.laws.fine_or_unowned.Goals as goal

pub returns : goal.returns
returns c = record { owned = fine_owned; free = fine_free; otherwise = fine_or }
