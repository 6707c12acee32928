use Rattle.std.proofs.Common.{◌≡◌, drop}
use Rattle.fits.specs.Follow.{past, rises}
use Rattle.fit_blocks.proofs.assert.past_outs.Given as goal

abbrev pub invariant-each : goal.invariant-each
invariant-each l = record {
  rises : rises l.next l.outs ≡ rises l.bound (drop l.out-index l.outs);
  past : past l.next l.outs ≡ past l.bound (drop l.out-index l.outs);
}
