use Rattle.nres_flat.specs.Lookups.{number_in}
use Rattle.nres_flat.proofs.Outcomes.{if_ok, so_on_ok}
use Rattle.nres_flat.proofs.Wholes.{none_entered, one_entered, all_entered, entered_block, entered_names}
use Rattle.nres_flat.proofs.whole.entered.Goals as goal

pub each-init : goal.each-init
each-init c = none_entered c.args.params.now c.args.names.now c.new-scope.ensures

pub each-preserved : goal.each-preserved
each-preserved c =
    one_entered c.args.params.now c.each.param-index c.param-item.result c.each.invariant c.each-test.true c.param-item.is c.in_ok-number.ensures.number c.in_ok-number.ensures.names
    c.bytes.ensures c.in_ok-bind.ensures

pub returns-clause-block : goal.returns-clause-block
returns-clause-block c =
    if_ok c.block.result
    (λ y h. entered_block (number_in c.args.procedures.now) c.args.params.now c.args.tree.now y (all_entered c.args.params.now c.each.param-index c.each.invariant c.each-test.false) h)
    c.block.ensures.block

pub returns-clause-names : goal.returns-clause-names
returns-clause-names c =
    so_on_ok c.block.result
    (λ y h. entered_names (number_in c.args.procedures.now) c.args.params.now c.args.tree.now y (all_entered c.args.params.now c.each.param-index c.each.invariant c.each-test.false) h)
    c.block.ensures.block
