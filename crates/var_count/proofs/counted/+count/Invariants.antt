use Rattle.std.proofs.Common.{◌≡◌, ◌+◌, drop}
use Rattle.nres_core.specs.FlatTree.{binds_of, bound_in}
use Rattle.var_count.proofs.counted.+count.Given as goal

abbrev pub invariant-in_binds-each : goal.invariant-in_binds-each
invariant-in_binds-each l = l.next + bound_in (binds_of (drop l.bind-index l.binds)) ≡ l.fn.sum + bound_in (binds_of l.binds)
