-- The parts of the code.
use Rattle.rule_forks.specs.Forks.{Part}
use Rattle.rule_forks.specs.declared.opening.Part.{Part as CodePart}

abbrev pub part_of : CodePart → Part
part_of p = record { us = p.us.now; others = p.others.now; slice = p.slice }
