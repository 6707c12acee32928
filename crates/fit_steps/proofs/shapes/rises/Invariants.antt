use Rattle.std.proofs.Common.{◌≡◌, drop}
use Rattle.fits.specs.Follow.{rises}
use Rattle.fit_steps.proofs.shapes.rises.Given as goal

abbrev pub invariant-each : goal.invariant-each
invariant-each l = rises l.next l.outs ≡ rises l.bound (drop l.out-index l.outs)
