use Rattle.target_meaning.proofs.Roomy.{reach_tested, left_reach}
use Rattle.target_meaning.proofs.laws.left_first_runs.Goals as goal

pub returns : goal.returns
returns g c = record { schedule = left_reach g.A.Noted.notes; tested = reach_tested g.A.Noted.notes }
