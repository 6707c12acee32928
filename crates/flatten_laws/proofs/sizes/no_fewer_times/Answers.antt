use Rattle.flatten_laws.proofs.SizeSamples.{no_fewer_times}
use Rattle.flatten_laws.proofs.sizes.no_fewer_times.Goals as goal

pub returns : goal.returns
returns c = no_fewer_times
