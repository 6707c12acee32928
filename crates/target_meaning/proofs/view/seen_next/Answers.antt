use Rattle.std.proofs.Common.{ap, ◌∙◌, subst}
use Rattle.target_meaning.specs.Lines.{counted}
use Rattle.target_meaning.specs.Memories.{heap_of}
use Rattle.target_meaning.specs.Settled.{Settled}
use Rattle.target_meaning.specs.Stacks.{code_at, proc_at, frame_of}
use Rattle.target_meaning.specs.Place.{items_at}
use Rattle.target_meaning.proofs.Viewed.{pair, placed, placed_line, same_line, next_made}
use Rattle.target_meaning.proofs.view.seen_next.Goals as goal

pub returns : goal.returns
returns c cs =
    pair
    (placed_line c.code_of-code.result.now (code_at c.args.procs.now c.args.top.now.proc) c.as_slice-2.result.now c.settle-standing.new.outer c.settle-standing.new.index c.standing_line-line.result (frame_of c.args.procs.now c.args.top.now).items
    c.standing_line-line.ensures c.code_of-code.ensures c.as_slice-2.ensures
    (placed c.args.procs.now c.args.top.now c.code_of-code.result.now c.settle-standing.new.outer c.in_ok-outer.outer c.settle-standing.new.index c.code_of-code.ensures (c.in_ok-outer.ensures ∙ c.as_slice.ensures) c.settle-standing.ensures.kept)
    ∙ ap counted (same_line (proc_at c.args.procs.now c.args.top.now.proc) (frame_of c.args.procs.now c.args.top.now).items))
    (next_made c.args.procs.now (heap_of c.args.memory.now) (items_at 1 (code_at c.args.procs.now c.args.top.now.proc) c.settle-standing.new.outer c.settle-standing.new.index) (frame_of c.args.procs.now c.args.top.now).items c.as_slice-3.result.now c.args.top.now.regs (proc_at c.args.procs.now c.args.top.now.proc) cs c.standing_next-next.result
    (c.standing_next-next.ensures c.settle-standing.new.outer c.settle-standing.new.index c.args.top.now.proc cs
    (subst (λ k. Settled k c.settle-standing.result c.settle-standing.new.outer c.settle-standing.new.index) c.code_of-code.ensures c.settle-standing.ensures.next))
    c.as_slice-3.ensures
    (placed c.args.procs.now c.args.top.now c.code_of-code.result.now c.settle-standing.new.outer c.in_ok-outer.outer c.settle-standing.new.index c.code_of-code.ensures (c.in_ok-outer.ensures ∙ c.as_slice.ensures) c.settle-standing.ensures.kept))
