use Rattle.body_rules.proofs.TextsLemmas.{procs_in_order}
use Rattle.body_rules.proofs.laws.procs_in_order.Goals as goal

pub returns : goal.returns
returns c = procs_in_order
