use Rattle.std.proofs.Common.{◌≡◌, drop}
use Rattle.fits.specs.Follow.{is_plain, past_plain}
use Rattle.nres_core.specs.FlatTree.{binds_of}
use Rattle.fit_blocks.proofs.assert.past_plain.Given as goal

abbrev pub invariant-each : goal.invariant-each
invariant-each l = record {
  plain : is_plain l.next (binds_of l.inner) ≡ is_plain l.bound (binds_of (drop l.bind-index l.inner));
  past : past_plain l.next (binds_of l.inner) ≡ past_plain l.bound (binds_of (drop l.bind-index l.inner));
}
