use Rattle.std.proofs.Common.{◌≡◌, drop}
use Rattle.fits.specs.Follow.{all_below}
use Rattle.fit_state.proofs.shapes.all_below.Given as goal

abbrev pub invariant-each : goal.invariant-each
invariant-each l = all_below l.regs l.list ≡ all_below l.regs (drop l.reg-index l.list)
