use Rattle.std.proofs.Common.{refl, ap, ◌∙◌}
use Rattle.target_meaning.specs.Lines.{counted}
use Rattle.target_meaning.specs.Stacks.{code_at, proc_at, frame_of}
use Rattle.target_meaning.proofs.Returned.{replaced}
use Rattle.target_meaning.proofs.Viewed.{placed, placed_line, same_line}
use Rattle.target_meaning.proofs.view.line_of.Goals as goal

pub returns-clause-line : goal.returns-clause-line
returns-clause-line c =
    placed_line c.code_of-code.result.now (code_at c.args.procs.now c.args.frames.now.top.proc) c.as_slice.result.now c.settle-standing.new.outer c.settle-standing.new.index c.standing_line.result (frame_of c.args.procs.now c.args.frames.now.top).items
    c.standing_line.ensures c.code_of-code.ensures c.as_slice.ensures
    (placed c.args.procs.now c.args.frames.now.top c.code_of-code.result.now c.settle-standing.new.outer c.args.frames.now.top.outer c.settle-standing.new.index c.code_of-code.ensures refl c.settle-standing.ensures.kept) ∙
    ap counted (same_line (proc_at c.args.procs.now c.args.frames.now.top.proc) (frame_of c.args.procs.now c.args.frames.now.top).items)

pub returns-clause-kept : goal.returns-clause-kept
returns-clause-kept c =
    replaced c.args.procs.now c.args.frames.now c.settle-standing.new.outer c.settle-standing.new.index
    (placed c.args.procs.now c.args.frames.now.top c.code_of-code.result.now c.settle-standing.new.outer c.args.frames.now.top.outer c.settle-standing.new.index c.code_of-code.ensures refl c.settle-standing.ensures.kept)
