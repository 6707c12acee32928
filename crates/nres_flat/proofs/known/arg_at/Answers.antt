use Rattle.nres_flat.proofs.Lookups.{some_found, none_found}
use Rattle.nres_flat.proofs.known.arg_at.Goals as goal

pub returns-in-Some : goal.returns-in-Some
returns-in-Some c = some_found c.args.scope.now c.args.name.now c.find.ensures c.in-Some.is

pub returns-in-None : goal.returns-in-None
returns-in-None c = none_found c.args.scope.now c.args.name.now c.find.ensures c.in-None.is
