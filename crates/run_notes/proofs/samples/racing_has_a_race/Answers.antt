use Rattle.run_notes.proofs.Checked.{racing_race, racing_unowned}
use Rattle.run_notes.proofs.samples.racing_has_a_race.Goals as goal

pub returns : goal.returns
returns c = record { race = racing_race; unowned = racing_unowned }
