use Rattle.proc_rules.proofs.CallsLemmas.{calls_refused}
use Rattle.proc_rules.proofs.laws.calls_refused.Goals as goal

pub returns : goal.returns
returns c = calls_refused
