use Rattle.std.proofs.Common.{drop}
use Rattle.nres_core.specs.FlatTree.{binds_of}
use Rattle.nres_core.specs.Mirror.{all_id_steps}
use Rattle.nres_flat.specs.Adding.{IsBehind}
use Rattle.nres_flat.specs.Lookups.{number_in}
use Rattle.nres_flat.proofs.Blocks.{StepsAhead}
use Rattle.nres_flat.proofs.+block.Given as goal

abbrev pub invariant-block::steps-each : goal.invariant-block::steps-each
invariant-block::steps-each l =
    StepsAhead (number_in l.procedures) (all_id_steps l.trees) (all_id_steps (drop l.tree-index l.trees)) l.initial.scope l.scope (binds_of l.initial.binds) (binds_of l.binds) l.initial.names l.names
    × IsBehind l.initial.scope l.scope
