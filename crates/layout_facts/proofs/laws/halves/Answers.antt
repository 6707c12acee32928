use Rattle.layout_facts.proofs.Ranges.{halves, two_least, halves_least}
use Rattle.layout_facts.proofs.laws.halves.Goals as goal

pub returns : goal.returns
returns c = record { all = halves; two = two_least; fit = halves_least }
