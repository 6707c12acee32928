use Rattle.std.proofs.Common.{◌≡◌, ◌++◌, drop}
use Rattle.loop_regs.proofs.written.note_all.Given as goal

abbrev pub invariant-each : goal.invariant-each
invariant-each l = l.noted ++ drop l.reg-index l.regs ≡ l.initial.noted ++ l.regs
