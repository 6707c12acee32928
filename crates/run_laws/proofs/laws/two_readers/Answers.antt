use Rattle.run_laws.proofs.Readers.{readers_law, readers_calm, spoiling_unsafe}
use Rattle.run_laws.proofs.laws.two_readers.Goals as goal

pub returns : goal.returns
returns g c = record {
  safe = readers_law;
  calm = readers_calm;
  spoiled = λ a xs b off i j p h given hs w. spoiling_unsafe xs b off i j p given h hs (g.A.Post.meets a) w;
}
