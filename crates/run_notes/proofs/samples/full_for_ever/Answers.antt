use Rattle.run_notes.proofs.Checked.{is_full, full_stays, end_stays, too_small, just_enough}
use Rattle.run_notes.proofs.samples.full_for_ever.Goals as goal

pub returns : goal.returns
returns c = record { full = is_full; stays = full_stays; ended = end_stays; too_small = too_small; just_enough = just_enough }
