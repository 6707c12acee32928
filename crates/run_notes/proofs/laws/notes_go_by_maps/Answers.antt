use Rattle.run_notes.proofs.Mapped.{reach_map, left_map}
use Rattle.run_notes.proofs.laws.notes_go_by_maps.Goals as goal

pub returns : goal.returns
returns g c = record { run = λ f is. reach_map g.A.Noted.notes g.B.Noted.notes f is; left = λ f is. left_map g.A.Noted.notes g.B.Noted.notes f is }
