use Rattle.fits_fewer.proofs.Balance.{typed_balanced}
use Rattle.fits_fewer.proofs.laws.typed_are_balanced.Goals as goal

pub returns : goal.returns
returns c = typed_balanced
