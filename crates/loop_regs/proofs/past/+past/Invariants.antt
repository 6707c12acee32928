use Rattle.std.proofs.Common.{◌≡◌, drop}
use Rattle.fits.specs.Follow.{past_lines}
use Rattle.loop_regs.proofs.past.+past.Given as goal
use Rattle.nres_core.specs.FlatTree.{binds_of}
use Rattle.proof_lines.specs.Lines.{lines_of}

abbrev pub invariant-past_binds-each : goal.invariant-past_binds-each
invariant-past_binds-each l = past_lines (binds_of l.binds) (lines_of l.initial.left) ≡ past_lines (binds_of (drop l.bind-index l.binds)) (lines_of l.left)
