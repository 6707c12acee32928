use Rattle.target_meaning.proofs.Keeps.{keeps, room_sized, any_unsized}
use Rattle.target_meaning.proofs.laws.steps_keep.Goals as goal

pub returns : goal.returns
returns c = record { step = keeps; sized = room_sized; not_sized = any_unsized }
