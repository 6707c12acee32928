use Rattle.sequential.proofs.Sequences.{all_binds, block_is, goes_on, stops, while_else, while_then}
use Rattle.sequential.proofs.walk.+sequential.Goals as goal

pub is_sequential_bind-returns-then-are_sequential_binds : goal.is_sequential_bind-returns-then-are_sequential_binds
is_sequential_bind-returns-then-are_sequential_binds t c =
    let a = c.in-While in
    while_then c.args.bind.now a.place a.outs a.vars a.starts a.cond c.as_slice.result.now a.test a.body c.are_sequential_binds.result c.is_sequential_block-then-are_sequential_binds.result
    a.is c.as_slice.ensures c.are_sequential_binds.ensures c.is_sequential_block-then-are_sequential_binds.ensures c.if-are_sequential_binds.true

pub is_sequential_bind-returns-else-are_sequential_binds : goal.is_sequential_bind-returns-else-are_sequential_binds
is_sequential_bind-returns-else-are_sequential_binds t c =
    let a = c.in-While in
    while_else c.args.bind.now a.place a.outs a.vars a.starts a.cond c.as_slice.result.now a.test a.body c.are_sequential_binds.result
    a.is c.as_slice.ensures c.are_sequential_binds.ensures c.if-are_sequential_binds.false

pub is_sequential_block-returns : goal.is_sequential_block-returns
is_sequential_block-returns t c = block_is c.args.block.now c.as_slice.result.now c.are_sequential_binds.result c.as_slice.ensures c.are_sequential_binds.ensures
