use Rattle.std.proofs.Common.{◌≡◌, ◌<◌, drop}
use Rattle.target_meaning.specs.Lines.{counted, line_in}
use Rattle.target_meaning.proofs.lines.lines_before.Given as goal

abbrev pub invariant-loop-instr : goal.invariant-loop-instr
invariant-loop-instr l = (l.lines < 18446744073709551616) × (counted (line_in 0 l.list l.index) ≡ counted (line_in l.lines (drop l.instr-index l.list) l.left))
