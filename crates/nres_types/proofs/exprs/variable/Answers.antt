use Rattle.nres_types.specs.Findings.{told_of}
use Rattle.nres_types.proofs.Steps.{known, unknown}
use Rattle.nres_types.proofs.exprs.variable.Goals as goal

pub returns-in-Some : goal.returns-in-Some
returns-in-Some c = known (told_of c.args.findings.now) c.args.scope.now c.args.name.now c.bytes.result.now c.find.result c.in-Some.ty c.find.ensures c.bytes.ensures c.in-Some.is

pub returns-in-None : goal.returns-in-None
returns-in-None c = unknown (told_of c.args.findings.now) (told_of c.note.new.self) c.args.scope.now c.args.name.now c.bytes.result.now c.bytes-in-None.result.now c.find.result c.find.ensures c.bytes.ensures c.in-None.is c.bytes-in-None.ensures c.note.ensures
