use Rattle.nres_core.specs.FlatTree.{flats_of}
use Rattle.rule_forks.specs.Forks.{uses_of}
use Rattle.rule_forks.proofs.OpeningLemmas.{beside_apart}
use Rattle.rule_forks.proofs.opening.open_split.Goals as goal

pub divide-requires-clause-left : goal.divide-requires-clause-left
divide-requires-clause-left c = beside_apart c.args.splitting.now.list c.in_ok-others.others.left (uses_of (flats_of c.args.left.now)) c.in_ok-others.ensures.left

pub divide-requires-clause-right : goal.divide-requires-clause-right
divide-requires-clause-right c = beside_apart c.args.splitting.now.list c.in_ok-others.others.right (uses_of (flats_of c.args.right.now)) c.in_ok-others.ensures.right
