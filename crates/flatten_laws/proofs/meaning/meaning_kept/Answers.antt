use Rattle.flatten_laws.proofs.Composed.{meaning_kept}
use Rattle.flatten_laws.proofs.meaning.meaning_kept.Goals as goal

pub returns : goal.returns
returns c = meaning_kept
