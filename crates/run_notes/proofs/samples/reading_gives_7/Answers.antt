use Rattle.run_notes.proofs.Checked.{reading_7}
use Rattle.run_notes.proofs.samples.reading_gives_7.Goals as goal

pub returns : goal.returns
returns c = reading_7
