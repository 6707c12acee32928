use Rattle.loop_regs.proofs.PastLemmas.{past_of_block, past_while}
use Rattle.proof_lines.specs.Lines.{lines_of}
use Rattle.loop_regs.proofs.past.+past.Goals as goal

pub past_bind-returns-in-While : goal.past_bind-returns-in-While
past_bind-returns-in-While t c =
    let a = c.in-While in
    past_while c.args.bind.now a.place a.outs a.vars a.starts a.cond c.as_slice.result.now a.test a.body (lines_of c.args.lines.now) (lines_of c.behind_one-in-While.result.now) (lines_of c.past_binds.result.now) (lines_of c.past_block-in-While.result.now)
    a.is c.as_slice.ensures c.behind_one-in-While.ensures c.past_binds.ensures c.past_block-in-While.ensures

pub past_block-returns : goal.past_block-returns
past_block-returns t c = past_of_block c.args.block.now c.as_slice.result.now (lines_of c.args.lines.now) (lines_of c.past_binds.result.now) c.as_slice.ensures c.past_binds.ensures
