use Rattle.var_count.proofs.CountLemmas.{if_ok_then, assert_counts, while_counts, block_counts, one_bind, all_binds}
use Rattle.var_count.proofs.counted.+count.Goals as goal

pub in_bind-returns-in-Assert : goal.in_bind-returns-in-Assert
in_bind-returns-in-Assert t c =
    let a = c.in-Assert in
    if_ok_then c.in_binds.result _ _
    (λ next h. assert_counts c.args.bind.now a.place a.inner c.as_slice.result.now a.test c.args.sum next a.is c.as_slice.ensures h)
    c.in_binds.ensures

pub in_bind-returns-in_ok-next-in-While-3 : goal.in_bind-returns-in_ok-next-in-While-3
in_bind-returns-in_ok-next-in-While-3 t c =
    let a = c.in-While in
    if_ok_then c.add-in-While-2.result _ _
    (λ next h. while_counts c.args.bind.now a.place a.outs a.vars a.starts a.cond c.as_slice-in-While.result.now a.test a.body c.args.sum c.len-in-While.result c.len-in-While-2.result
    c.in_ok-next-in-While.next c.in_ok-next-in-While-2.next c.in_ok-next-in-While-3.next next
    a.is c.as_slice-in-While.ensures c.len-in-While.ensures c.len-in-While-2.ensures c.in_ok-next-in-While.ensures c.in_ok-next-in-While-2.ensures c.in_ok-next-in-While-3.ensures h)
    c.add-in-While-2.ensures

pub in_block-returns : goal.in_block-returns
in_block-returns t c = if_ok_then c.in_binds.result _ _ (λ next h. block_counts c.args.block.now c.as_slice.result.now c.args.sum next c.as_slice.ensures h) c.in_binds.ensures
