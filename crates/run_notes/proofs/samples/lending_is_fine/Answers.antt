use Rattle.run_notes.proofs.Checked.{lending_fine, spoiling_unowned}
use Rattle.run_notes.proofs.samples.lending_is_fine.Goals as goal

pub returns : goal.returns
returns c = record { reader = lending_fine; writer = spoiling_unowned }
