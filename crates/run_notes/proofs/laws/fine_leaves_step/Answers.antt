use Rattle.run_notes.proofs.Made.{fine_made}
use Rattle.run_notes.proofs.laws.fine_leaves_step.Goals as goal

pub returns : goal.returns
returns c = fine_made
