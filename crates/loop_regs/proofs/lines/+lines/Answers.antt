use Rattle.std.proofs.Common.{List, ap}
use Rattle.std.specs.Prelude.{option_map}
use Rattle.loop_regs.proofs.LinesLemmas.{block_noted, if_ok_then, while_both, while_cut}
use Rattle.proof_lines.specs.Lines.{lines_of}
use Rattle.proof_text.specs.declared.line.ProofLine.{ProofLine}
use Rattle.std.specs.Borrow.{Bor}
use Rattle.loop_regs.proofs.lines.+lines.Goals as goal

pub note_block-returns : goal.note_block-returns
note_block-returns t c = if_ok_then c.note_lines.result _ _ (λ left h. block_noted c.args.block.now c.as_slice.result.now (lines_of c.args.lines.now) c.args.noted.now c.note_lines.new.noted _ c.as_slice.ensures h) c.note_lines.ensures

pub note_bind-returns-in-Some-3 : goal.note_bind-returns-in-Some-3
note_bind-returns-in-Some-3 t c =
    let a = c.in-While in
    let w = c.in-Some-while_regs in
    if_ok_then c.note_block-in-Some-3.result _ _
    (λ left h. while_both c.args.bind.now a.place a.outs a.vars a.starts a.cond c.as_slice.result.now a.test a.body a.is c.as_slice.ensures (lines_of c.args.lines.now) (lines_of w.others.now) w.regs.now c.args.noted.now c.note_all-in-Some-while_regs.new.noted c.note_lines.new.noted
    w.ensures c.in_ok-note_all-in-Some-while_regs.ensures _ c.in_ok-left-in-Some-while_regs.ensures (lines_of c.in-Some-3.left.now) c.note_block-in-Some-3.new.noted _ (ap (option_map (λ (z : Bor (List ProofLine)). lines_of z.now)) c.in-Some-3.is) h)
    c.note_block-in-Some-3.ensures

pub note_bind-returns-in-None-3 : goal.note_bind-returns-in-None-3
note_bind-returns-in-None-3 t c =
    let a = c.in-While in
    let w = c.in-Some-while_regs in
    while_cut c.args.bind.now a.place a.outs a.vars a.starts a.cond c.as_slice.result.now a.test a.body a.is c.as_slice.ensures (lines_of c.args.lines.now) (lines_of w.others.now) w.regs.now c.args.noted.now c.note_all-in-Some-while_regs.new.noted c.note_lines.new.noted
    w.ensures c.in_ok-note_all-in-Some-while_regs.ensures _ c.in_ok-left-in-Some-while_regs.ensures (ap (option_map (λ (z : Bor (List ProofLine)). lines_of z.now)) c.in-None-3.is)
