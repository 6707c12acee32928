use Rattle.layout_facts.proofs.FootprintsLemmas.{footprint_of}
use Rattle.layout_facts.proofs.laws.footprints.Goals as goal

pub returns : goal.returns
returns c = footprint_of
