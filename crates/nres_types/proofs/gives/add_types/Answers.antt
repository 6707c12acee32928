use Rattle.std.proofs.Common.{None}
use Rattle.nres_types.proofs.Binders.{heads_more, heads_done}
use Rattle.nres_types.proofs.gives.add_types.Goals as goal

pub loop-at-preserved : goal.loop-at-preserved
loop-at-preserved c = heads_more c.args.types.now.items c.loop-at.types.items c.push.new.self.items c.args.heads.now c.loop-at.at c.args.from (record { line = 0; column = 0 }, None) c.loop-at-test.true c.in_ok-push.ensures.items c.loop-at.invariant

pub returns : goal.returns
returns c = heads_done c.args.types.now.items c.loop-at.types.items c.args.heads.now c.loop-at.at c.args.from c.loop-at-test.false c.loop-at.invariant
