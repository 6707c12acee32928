use Rattle.run_notes.proofs.Checked.{loop_left}
use Rattle.run_notes.proofs.samples.loop_in_two_steps.Goals as goal

pub returns : goal.returns
returns c = loop_left
