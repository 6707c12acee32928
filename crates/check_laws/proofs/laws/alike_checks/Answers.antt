use Rattle.check_laws.proofs.AlikeLemmas.{alike_checks}
use Rattle.check_laws.proofs.laws.alike_checks.Goals as goal

pub returns : goal.returns
returns c = alike_checks
