use Rattle.nres_flat.specs.Lookups.{number_in}
use Rattle.nres_flat.proofs.Wholes.{none_made, one_made, made_funs, made_names}
use Rattle.nres_flat.proofs.whole.funs.Goals as goal

pub each-init : goal.each-init
each-init c = none_made (number_in c.args.procedures.now) c.args.trees.now c.args.names.now c.new-flat.ensures

pub each-preserved : goal.each-preserved
each-preserved c =
    one_made (number_in c.args.procedures.now) c.args.trees.now c.each.tree-index c.tree-item.result _ c.each.invariant c.each-test.true c.tree-item.is c.in_ok-fun.ensures.fun c.in_ok-fun.ensures.names
    c.in_ok-push.ensures.ok

pub returns-clause-funs : goal.returns-clause-funs
returns-clause-funs c = made_funs (number_in c.args.procedures.now) c.args.trees.now c.each.tree-index c.each.invariant c.each-test.false

pub returns-clause-names : goal.returns-clause-names
returns-clause-names c = made_names (number_in c.args.procedures.now) c.args.trees.now c.each.tree-index c.each.invariant c.each-test.false
