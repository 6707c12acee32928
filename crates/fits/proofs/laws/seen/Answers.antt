use Rattle.fits.proofs.SamplesSeen.{seen}
use Rattle.fits.proofs.laws.seen.Goals as goal

pub returns : goal.returns
returns c = seen
