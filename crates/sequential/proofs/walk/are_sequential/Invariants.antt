use Rattle.std.proofs.Common.{◌≡◌, drop}
use Rattle.sequential.specs.Sequential.{sequential_procs}
use Rattle.nres_core.specs.FlatTree.{flat_procs_of}
use Rattle.sequential.proofs.walk.are_sequential.Given as goal

abbrev pub invariant-each : goal.invariant-each
invariant-each l = sequential_procs (flat_procs_of l.funs) ≡ sequential_procs (flat_procs_of (drop l.fun-index l.funs))
