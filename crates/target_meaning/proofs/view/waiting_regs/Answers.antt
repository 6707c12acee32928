use Rattle.std.proofs.Common.{◌+◌, length, sym, ap, ◌∙◌}
use Rattle.target_meaning.specs.Lines.{counted}
use Rattle.target_meaning.specs.declared.stack.Frame.{Frame}
use Rattle.target_meaning.proofs.Viewed.{regs_more, regs_end}
use Rattle.target_meaning.proofs.view.waiting_regs.Goals as goal

pub loop-frame-preserved : goal.loop-frame-preserved
loop-frame-preserved c = (
  c.saturating_add-regs.type_inv,
  c.loop-frame.invariant.1 ∙
      sym (regs_more c.args.frames.now c.loop-frame.frame-index c.loop-frame.regs c.saturating_add-regs.result c.frame-item.result c.loop-frame-test.true
      (c.saturating_add-regs.ensures ∙ ap (λ n. counted (c.loop-frame.regs + n)) (c.len.ensures ∙ ap (λ (f : Frame). length f.regs) c.frame-item.is))),
)

pub returns : goal.returns
returns c procs = regs_end procs c.args.frames.now c.loop-frame.frame-index c.loop-frame.regs c.loop-frame.invariant.0 c.loop-frame-test.false c.loop-frame.invariant.1
