use Rattle.std.proofs.Common.{sym, ap, ◌∙◌}
use Rattle.target_meaning.specs.Lines as spec
use Rattle.target_meaning.specs.Lines.{counted}
use Rattle.target_meaning.proofs.Counted.{counted_block, lines_end}
use Rattle.target_meaning.proofs.Numbered.{lines_if, lines_while}
use Rattle.target_meaning.proofs.lines.+lines.Goals as goal

pub code_lines-returns : goal.code_lines-returns
code_lines-returns t c =
    lines_end c.as_slice-instr-items.result.now c.loop-instr.instr-index c.loop-instr.lines c.loop-instr.invariant.0 c.loop-instr-test.false ∙ sym c.loop-instr.invariant.1

pub instr_lines-returns-in-If : goal.instr_lines-returns-in-If
instr_lines-returns-in-If t c =
    c.block_lines.ensures ∙ counted_block _ _ _ _ c.code_lines.ensures c.code_lines-in-If.ensures ∙
    ap counted (sym (ap spec.lines_of c.in-If.is ∙ lines_if c.in-If.test c.in-If.yes c.in-If.no))

pub instr_lines-returns-in-While : goal.instr_lines-returns-in-While
instr_lines-returns-in-While t c =
    c.block_lines-in-While.ensures ∙ counted_block _ _ _ _ c.code_lines-in-While.ensures c.code_lines-in-While-2.ensures ∙
    ap counted (sym (ap spec.lines_of c.in-While.is ∙ lines_while c.in-While.test c.in-While.cond c.in-While.body))
