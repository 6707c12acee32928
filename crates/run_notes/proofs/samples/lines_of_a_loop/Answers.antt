use Rattle.run_notes.proofs.Checked.{loop_lines}
use Rattle.run_notes.proofs.samples.lines_of_a_loop.Goals as goal

pub returns : goal.returns
returns c = loop_lines
