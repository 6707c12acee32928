use Rattle.fits_text.specs.FitsText.{text_views}
use Rattle.nres_core.specs.FlatTree.{flat_whole_of}
use Rattle.derivation_walk.proofs.Followings.{followed_so, views_are}
use Rattle.derivation_walk.proofs.walk.DerivationWalkFollower.follow.Goals as goal

pub returns : goal.returns
returns c =
    let w = flat_whole_of c.args.flat.now in
    let T = c.args.program.now in
    followed_so (text_views w T.procs) w T c.args.lines.now (views_are w T) c.as_slice.result.now c.as_slice.ensures c.in_ok-said.said c.in_ok-said.ensures
    c.followed.result c.followed.ensures
