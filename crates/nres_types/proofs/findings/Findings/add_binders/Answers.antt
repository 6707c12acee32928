use Rattle.nres_types.specs.Findings.{told_of}
use Rattle.nres_types.proofs.Binders.{binders_more, binders_done}
use Rattle.nres_types.proofs.findings.Findings.add_binders.Goals as goal

pub loop-at-preserved : goal.loop-at-preserved
loop-at-preserved c = binders_more (told_of c.args.self.now) (told_of c.loop-at.self) c.push.new.self.items c.args.names.now c.args.types.now c.loop-at.at c.type_number.result c.loop-at-test.true c.type_number.ensures c.in_ok-push.ensures.items c.loop-at.invariant

pub returns : goal.returns
returns c = binders_done (told_of c.args.self.now) (told_of c.loop-at.self) c.args.names.now c.args.types.now c.loop-at.at c.loop-at-test.false c.loop-at.invariant
