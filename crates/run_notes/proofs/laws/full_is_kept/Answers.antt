use Rattle.run_notes.proofs.Made.{full_longer}
use Rattle.run_notes.proofs.laws.full_is_kept.Goals as goal

pub returns : goal.returns
returns g c room T es fs t h e = full_longer g.A.Noted.notes room T es fs t h e
