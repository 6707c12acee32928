use Rattle.fits_more.proofs.Follows.{more_follow}
use Rattle.fits_more.proofs.laws.more_follow.Goals as goal

pub returns : goal.returns
returns c = more_follow
