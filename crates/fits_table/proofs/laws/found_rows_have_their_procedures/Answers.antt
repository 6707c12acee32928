use Rattle.fits_table.proofs.Named.{found_named}
use Rattle.fits_table.proofs.laws.found_rows_have_their_procedures.Goals as goal

pub returns : goal.returns
returns c = found_named
