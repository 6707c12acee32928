use Rattle.std.proofs.Common.{refl}
use Rattle.block_dir.specs.Views.{opening_view}
use Rattle.block_dir.proofs.law.opened_seat_holds_nothing.Goals as goal

pub returns-clause-shares : goal.returns-clause-shares
unfolding opening_view
returns-clause-shares c cap p = refl
