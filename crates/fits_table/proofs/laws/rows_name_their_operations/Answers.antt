use Rattle.fits_table.proofs.Named.{tables_name}
use Rattle.fits_table.proofs.laws.rows_name_their_operations.Goals as goal

pub returns : goal.returns
returns c = tables_name
