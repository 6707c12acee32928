use Rattle.uses.proofs.UsedLemmas.{on_ok, while_adds, block_adds, one_bind, all_binds}
use Rattle.uses.proofs.used.+used.Goals as goal

pub in_bind-returns-in_ok-in_arg-in-While : goal.in_bind-returns-in_ok-in_arg-in-While
in_bind-returns-in_ok-in_arg-in-While t c =
    on_ok c.in_block-in-While.result
    (while_adds c.args.bind.now c.in-While.place c.in-While.outs c.in-While.vars c.in-While.starts c.in-While.cond c.in-While.test c.in-While.body
    c.as_slice-in-While.result.now c.as_slice-in-While-2.result.now c.args.uses.now c.in_args-in-While.new.uses c.in_binds.new.uses c.in_arg-in-While.new.uses c.in_block-in-While.new.uses
    c.in-While.is c.as_slice-in-While.ensures c.as_slice-in-While-2.ensures c.in_ok-in_args-in-While.ensures c.in_ok-in_binds-in-While.ensures c.in_ok-in_arg-in-While.ensures)
    c.in_block-in-While.ensures

pub in_block-returns : goal.in_block-returns
in_block-returns t c =
    on_ok c.in_args.result
    (block_adds c.args.block.now c.as_slice.result.now c.as_slice-2.result.now c.args.uses.now c.in_binds.new.uses c.in_args.new.uses c.as_slice.ensures c.as_slice-2.ensures c.in_ok-in_binds.ensures)
    c.in_args.ensures

pub in_binds-each-preserved : goal.in_binds-each-preserved
in_binds-each-preserved t c =
    one_bind c.args.binds.now c.each.bind-index c.bind-item.result c.args.uses.now c.each.uses c.in_bind.new.uses c.each-test.true c.bind-item.is c.each.invariant c.in_ok-in_bind.ensures

pub in_binds-returns : goal.in_binds-returns
in_binds-returns t c = all_binds c.args.binds.now c.each.bind-index c.args.uses.now c.each.uses c.each-test.false c.each.invariant
