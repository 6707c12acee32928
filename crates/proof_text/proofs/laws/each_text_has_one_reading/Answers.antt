use Rattle.proof_text.proofs.OneReading.{one_reading}
use Rattle.proof_text.proofs.laws.each_text_has_one_reading.Goals as goal

pub returns : goal.returns
returns c = one_reading
