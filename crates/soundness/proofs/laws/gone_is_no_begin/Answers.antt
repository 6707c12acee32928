use Rattle.soundness.proofs.Starts.{gone_is_no_begin}
use Rattle.soundness.proofs.laws.gone_is_no_begin.Goals as goal

pub returns : goal.returns
returns c = gone_is_no_begin
