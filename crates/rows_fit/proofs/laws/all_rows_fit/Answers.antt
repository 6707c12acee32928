use Rattle.rows_fit.proofs.AllRows.{row_fits}
use Rattle.rows_fit.proofs.Found.{table_sound}
use Rattle.rows_fit.proofs.laws.all_rows_fit.Goals as goal

pub returns : goal.returns
returns g c = λ p op zs made x e.
    let s = g.P.HasTable.served p in
    row_fits s.procs (table_sound s.procs s.found) s.laws s.views s.looks op zs made x e
