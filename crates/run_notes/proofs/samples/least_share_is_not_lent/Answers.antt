use Rattle.run_notes.proofs.Checked.{least_unowned}
use Rattle.run_notes.proofs.samples.least_share_is_not_lent.Goals as goal

pub returns : goal.returns
returns c = least_unowned
