use Rattle.std.proofs.Common.{refl}
use denote.Hole.Carrier
use Rattle.target_code.specs.declared.tree.Instr.{out-Instr}
use Rattle.replay.specs.Told.{told_at}
use Rattle.replay.proofs.laws.schedules_seen.Goals as goal

pub returns : goal.returns
unfolding told_at out-Instr Carrier.out
returns c = record {
  race = refl;
  open_ = refl;
  none = refl;
  no_leaf = refl;
  used = refl;
  full = refl;
  end = refl;
  stuck = refl;
  leftmost = refl;
  apart = refl;
  both_read = refl;
  freed = refl;
  deep = refl;
  not_deep = refl;
  wide = refl;
  forked = refl;
  not_forked = refl;
  elsewhere = refl;
}
