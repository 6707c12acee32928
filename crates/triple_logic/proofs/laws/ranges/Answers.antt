use Rattle.triple_logic.proofs.Parts.{front-back, front_slice, back_slice, join_slice}
use Rattle.triple_logic.proofs.laws.ranges.Goals as goal

pub returns : goal.returns
returns c = record { whole = front-back; first = front_slice; second = back_slice; joined = join_slice }
