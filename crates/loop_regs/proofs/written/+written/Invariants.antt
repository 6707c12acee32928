use Rattle.std.proofs.Common.{◌≡◌, ◌||◌, ℕ, drop}
use Rattle.fits.specs.Written.{is_one_of, list_writes}
use Rattle.loop_regs.proofs.written.+written.Given as goal

abbrev pub invariant-note_written-each : goal.invariant-note_written-each
invariant-note_written-each l = (r : ℕ) → (is_one_of r l.noted || list_writes r (drop l.instr-index l.instr-items)) ≡ (list_writes r l.instr-items || is_one_of r l.initial.noted)
