use Rattle.std.proofs.Common.{[], ℕ, length, ap, ◌∙◌}
use Rattle.target_meaning.specs.declared.view.Next.{Next}
use Rattle.target_meaning.specs.Lines.{counted}
use Rattle.target_meaning.specs.Memories.{heap_of}
use Rattle.target_meaning.specs.Stacks.{frame_of, callers_of}
use Rattle.target_meaning.specs.Views.{callers_regs}
use Rattle.target_meaning.proofs.Viewed.{frames_made, regs_made, view_made}
use Rattle.target_meaning.proofs.view.view.Goals as goal

pub returns : goal.returns
returns c =
    let cs = callers_of c.args.procs.now c.args.frames.now.below.items [] in
    let seen = c.in_ok-line.ensures cs in
    view_made c.args.procs.now (heap_of c.args.memory.now) c.args.path.now c.in-Ok.path (frame_of c.args.procs.now c.args.frames.now.top) cs c.in_ok-proc.proc c.in_ok-line.line c.saturating_add.result c.saturating_add-2.result c.in_ok-line.next
    c.in-Ok.ensures
    c.in_ok-proc.ensures
    (ap (λ (s : ℕ × Next). s.0) seen)
    (frames_made c.args.procs.now c.args.frames.now.below.items _ c.saturating_add.result c.saturating_add.ensures (ap length c.as_slice-below.ensures.value))
    (regs_made _ c.waiting_regs.result c.saturating_add-2.result (length c.args.frames.now.top.regs) (callers_regs cs) c.saturating_add-2.ensures (ap length c.as_slice-regs.ensures)
    (c.waiting_regs.ensures c.args.procs.now ∙ ap (λ l. counted (callers_regs (callers_of c.args.procs.now l []))) c.as_slice-below.ensures.value))
    (ap (λ (s : ℕ × Next). s.1) seen)
