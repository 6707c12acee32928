use Rattle.run_notes.proofs.Lawful.{move_lawful}
use Rattle.run_notes.proofs.laws.heaps_stay_lawful.Goals as goal

pub returns : goal.returns
returns g c room sized T t h path x ok = move_lawful g.A.Noted.notes room sized h ok T t path x
