use Rattle.std.proofs.Common.{◌≡◌, ◌∙◌, ◌≤◌, length, arith}
use Rattle.share_table.specs.Owners as spec
use Rattle.share_table.proofs.Sums.{none}
use Rattle.share_table.proofs.Moves.{mapped_to, mapped_none, mapped_after, mapped_all}
use Rattle.share_table.proofs.owners.give_over.Goals as goal

pub loop-index-init : goal.loop-index-init
loop-index-init c = mapped_none (spec.moved c.args.from c.args.to) c.args.entries.now

pub loop-index-preserved : goal.loop-index-preserved
loop-index-preserved c =
    mapped_after (spec.moved c.args.from c.args.to) c.args.entries.now c.loop-index.entries c.loop-index.index none c.moved.result c.loop-index.invariant c.moved.ensures c.loop-index-test.true

pub returns : goal.returns
returns c = c.loop-index.invariant ∙ mapped_all (spec.moved c.args.from c.args.to) c.args.entries.now c.loop-index.index c.loop-index-test.false
