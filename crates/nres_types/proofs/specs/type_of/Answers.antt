use Rattle.nres_types.specs.Findings.{told_of}
use Rattle.nres_types.proofs.Results.{only_typed}
use Rattle.nres_types.proofs.specs.type_of.Goals as goal

pub returns-in-Ok-clause-only : goal.returns-in-Ok-clause-only
returns-in-Ok-clause-only c = only_typed c.conclude.result c.args.spec.now (told_of c.in-Ok.found) c.in-Ok.ensures c.conclude.ensures.typed c.conclude.ensures.refused
