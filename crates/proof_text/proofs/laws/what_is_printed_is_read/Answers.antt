use Rattle.proof_text.proofs.OneReading.{printed_is_read}
use Rattle.proof_text.proofs.laws.what_is_printed_is_read.Goals as goal

pub returns : goal.returns
returns c = printed_is_read
