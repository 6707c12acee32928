use Rattle.rows_fit.proofs.AllRows.{found_sound}
use Rattle.rows_fit.proofs.Found.{table_sound}
use Rattle.rows_fit.proofs.laws.found_rows_are_sound.Goals as goal

pub returns : goal.returns
returns c = λ procs found op xs made x e small. found_sound procs (table_sound procs found) op xs made x e small
