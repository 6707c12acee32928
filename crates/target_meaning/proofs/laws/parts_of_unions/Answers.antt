use Rattle.target_meaning.proofs.Shares.{holds_left, holds_right}
use Rattle.target_meaning.proofs.laws.parts_of_unions.Goals as goal

pub returns : goal.returns
returns c = record { left = holds_left; right = holds_right }
