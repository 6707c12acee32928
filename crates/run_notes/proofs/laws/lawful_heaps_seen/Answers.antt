use Rattle.run_notes.proofs.Lawful.{reading_lawful, past_unlawful}
use Rattle.run_notes.proofs.laws.lawful_heaps_seen.Goals as goal

pub returns : goal.returns
returns c = record { lawful = reading_lawful; past = past_unlawful }
