use Rattle.std.proofs.Common.{drop}
use Rattle.nres_flat.proofs.Wholes.{Entering}
use Rattle.nres_flat.proofs.whole.entered.Given as goal

abbrev pub invariant-each : goal.invariant-each
invariant-each l = Entering l.params (drop l.param-index l.params) l.scope l.initial.names l.names
