use Rattle.store_blocks.proofs.Putting.{put_held}
use Rattle.store_blocks.proofs.law.put_is_held.Goals as goal

pub returns : goal.returns
returns c = put_held
