use Rattle.std.proofs.Common.{◌+◌, drop, sym, ap, ◌∙◌}
use Rattle.target_meaning.specs.Lines.{counted, lines_of, line_in}
use Rattle.target_meaning.proofs.Counted.{line_more, line_end, line_here}
use Rattle.target_meaning.proofs.lines.lines_before.Goals as goal

pub loop-instr-preserved : goal.loop-instr-preserved
loop-instr-preserved c = (
  c.saturating_add-lines.type_inv,
  c.loop-instr.invariant.1 ∙
      sym (line_more c.args.list.now c.loop-instr.instr-index c.loop-instr.left c.loop-instr.lines c.saturating_add-lines.result c.instr-item.result c.loop-instr-test.true c.if-left-eq0.false
      (c.saturating_add-lines.ensures ∙ ap (λ n. counted (c.loop-instr.lines + n)) (c.instr_lines.ensures ∙ ap (λ i. counted (lines_of i)) c.instr-item.is))),
)

pub returns : goal.returns
returns c = line_end c.args.list.now c.loop-instr.instr-index c.loop-instr.left c.loop-instr.lines c.loop-instr.invariant.0 c.loop-instr-test.false ∙ sym c.loop-instr.invariant.1

pub returns-then-left-eq0 : goal.returns-then-left-eq0
returns-then-left-eq0 c =
    line_here c.args.list.now c.loop-instr.instr-index c.loop-instr.lines c.loop-instr.invariant.0 ∙
    ap (λ m. counted (line_in c.loop-instr.lines (drop c.loop-instr.instr-index c.args.list.now) m)) (sym c.if-left-eq0.true) ∙ sym c.loop-instr.invariant.1
