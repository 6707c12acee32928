use Rattle.identify_laws.proofs.TakenLemmas.{texts_take}
use Rattle.identify_laws.proofs.meaning.texts_take.Goals as goal

pub returns : goal.returns
returns c = texts_take
