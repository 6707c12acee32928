use Rattle.std.proofs.Common.{◌≡◌, ◌+◌, ◌<◌, drop}
use Rattle.target_meaning.specs.Lines.{counted, lines_all}
use Rattle.target_meaning.proofs.lines.+lines.Given as goal

abbrev pub invariant-code_lines-loop-instr : goal.invariant-code_lines-loop-instr
invariant-code_lines-loop-instr l = (l.lines < 18446744073709551616) × (counted (lines_all l.code.list) ≡ counted (l.lines + lines_all (drop l.instr-index l.instr-items)))
