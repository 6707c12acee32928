use Rattle.nres_types.specs.Findings.{wrongs}
use Rattle.nres_types.proofs.Steps.{name_known, name_unknown}
use Rattle.nres_types.proofs.patterns.name_wants.Goals as goal

pub returns-in-Some : goal.returns-in-Some
returns-in-Some c = name_known c.args.scope.now c.args.named.now c.bytes-name.result.now c.find.result c.in-Some.found c.args.want (wrongs c.wants.result) c.find.ensures c.bytes-name.ensures c.in-Some.is c.wants.ensures

pub returns-in-None : goal.returns-in-None
returns-in-None c = name_unknown c.args.scope.now c.args.named.now c.bytes-name.result.now c.find.result c.args.want c.find.ensures c.bytes-name.ensures c.in-None.is
