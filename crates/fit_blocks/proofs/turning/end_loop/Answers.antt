use Rattle.std.proofs.Common.{refl, subst}
use Rattle.fit_blocks.specs.Loops.{LoopCloses}
use Rattle.fit_blocks.proofs.turning.end_loop.Goals as goal

pub returns-then-branch : goal.returns-then-branch
returns-then-branch c = record {
  ends = (subst (LoopCloses c.args.regs c.args.state.now c.args.over.now c.args.looping.now c.args.turned.0.now c.args.turned.1.now c.close_loop.new.state) c.if-branch.true c.in_ok-close_loop.ensures.closes, refl, refl);
}

pub returns-else-branch : goal.returns-else-branch
returns-else-branch c = record {
  ends = (subst (LoopCloses c.args.regs c.args.state.now c.args.over.now c.args.looping.now c.args.turned.0.now c.args.turned.1.now c.close_loop.new.state) c.if-branch.false c.in_ok-close_loop.ensures.closes, refl);
}
