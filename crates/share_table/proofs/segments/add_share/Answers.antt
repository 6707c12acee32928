use Rattle.share_table.specs.Segments.{shared}
use Rattle.share_table.proofs.Dealt.{pushed}
use Rattle.share_table.proofs.segments.add_share.Goals as goal

pub returns-in_ok-push : goal.returns-in_ok-push
returns-in_ok-push c = pushed (shared c.args.segment c.args.owner c.args.share) c.args.table.now.items c.push.new.self.items c.in_ok-push.ensures.items
