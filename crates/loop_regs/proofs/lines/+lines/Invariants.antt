use Rattle.std.proofs.Common.{drop}
use Rattle.loop_regs.proofs.LinesLemmas.{SoFar}
use Rattle.proof_lines.specs.Lines.{lines_of}
use Rattle.loop_regs.proofs.lines.+lines.Given as goal

abbrev pub invariant-note_lines-each : goal.invariant-note_lines-each
invariant-note_lines-each l = SoFar l.binds (drop l.bind-index l.binds) (lines_of l.initial.lines) (lines_of l.left) l.initial.noted l.noted
