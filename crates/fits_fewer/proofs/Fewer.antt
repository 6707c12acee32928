-- A program that fits and has only some procedures is sound, as it is with all of them.
use Rattle.std.specs.Prelude.{◌≡◌, List, []}
use Rattle.std.proofs.Common.{refl, sym, subst}
use Rattle.nres_core.specs.FlatTree.{flat_whole_of}
use Rattle.soundness.specs.Behaviour.{of_flat}
use Rattle.soundness.specs.Bound.{IsBoundedFor}
use Rattle.soundness.specs.Sound.{FlatSound}
use Rattle.fewer_procs.specs.Fewer.{with_procs}
use Rattle.fewer_procs.proofs.Fewer.{fewer_sound, fewer_bounded}
use Rattle.fits_more.specs.More.{of_procs, FindsAll}
use Rattle.fits_more.proofs.Follows.{more_follow}
use Rattle.fits_sound.specs.FitsWhole.{FitsWhole}
use Rattle.fits_sound.proofs.Mains.{is_sound, is_bounded}
use Rattle.fits_fewer.specs.FitsFewer.{FitsFewer}

module _ (x : FitsFewer) where
  -- the program with all procedures
  abbrev with_all : FitsWhole
  with_all = record {
    text = x.text;
    program = with_procs x.program x.more;
    views = of_procs x.views x.more;
    same = refl;
    rows = x.rows;
    sigs = x.sigs;
    balanced = x.balanced;
    ins = x.ins;
    outs = x.outs;
    lines = x.lines;
    last = x.last;
    fits = more_follow x.views x.more (subst (FindsAll x.more) (sym x.same) x.fewer.found) (flat_whole_of x.text) x.lines x.last [] [] x.fits;
  }

  pub sound : FlatSound x.text x.program
  sound = fewer_sound (of_flat x.text) x.program x.more x.fewer (is_sound with_all)

  pub bounded : IsBoundedFor (of_flat x.text) x.program
  bounded = fewer_bounded (of_flat x.text) x.program x.more x.fewer (is_bounded with_all)
