use Rattle.std.proofs.Common.{◌≡◌, drop}
use Rattle.sequential.specs.Sequential.{sequential}
use Rattle.nres_core.specs.FlatTree.{binds_of}
use Rattle.sequential.proofs.walk.+sequential.Given as goal

abbrev pub invariant-are_sequential_binds-each : goal.invariant-are_sequential_binds-each
invariant-are_sequential_binds-each l = sequential (binds_of l.binds) ≡ sequential (binds_of (drop l.bind-index l.binds))
