use Rattle.target_meaning.proofs.Numbered.{lines_if, lines_while}
use Rattle.run_notes.proofs.samples.lines_of_blocks.Goals as goal

pub returns : goal.returns
returns c = record { choice = lines_if; repeat = lines_while }
