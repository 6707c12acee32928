use Rattle.run_begins.proofs.Starting.{placed_begin}
use Rattle.run_begins.proofs.laws.placed_inputs_begin.Goals as goal

pub returns : goal.returns
returns c = placed_begin
