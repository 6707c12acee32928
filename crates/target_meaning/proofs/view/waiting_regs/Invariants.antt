use Rattle.std.proofs.Common.{◌≡◌, ◌+◌, ◌<◌, drop}
use Rattle.target_meaning.specs.Lines.{counted}
use Rattle.target_meaning.proofs.Viewed.{frames_regs}
use Rattle.target_meaning.proofs.view.waiting_regs.Given as goal

abbrev pub invariant-loop-frame : goal.invariant-loop-frame
invariant-loop-frame l = (l.regs < 18446744073709551616) × (counted (frames_regs l.frames) ≡ counted (l.regs + frames_regs (drop l.frame-index l.frames)))
