use Rattle.std.proofs.Common.{drop}
use Rattle.nres_flat.specs.Lookups.{number_in}
use Rattle.nres_flat.proofs.Wholes.{Making}
use Rattle.nres_flat.proofs.whole.funs.Given as goal

abbrev pub invariant-each : goal.invariant-each
invariant-each l = Making (number_in l.procedures) l.trees (drop l.tree-index l.trees) l.flat l.initial.names l.names
