use Rattle.std.proofs.Common.{◌≡◌, ℕ, ◌+◌, ◌<◌, ◌≤◌, take, arith}
use Rattle.share_table.specs.Amounts.{amount}
use Rattle.share_table.proofs.Sums.{amount_prefix, amount_step}
use Rattle.share_table.proofs.look.amount_of.Goals as goal

pub overflow_add-sum : goal.overflow_add-sum
overflow_add-sum c =
    let es = c.args.entries.now in
    let i = c.loop-entry.entry-index in
    let v : c.loop-entry.sum ≡ amount (take i es) c.args.owner c.args.block c.args.place = c.loop-entry.invariant in
    let s = amount_step es i c.args.owner c.args.block c.args.place c.share_of_branch-sum.result c.loop-entry-test.true c.share_of_branch-sum.ensures in
    let p = amount_prefix es (i + 1) c.args.owner c.args.block c.args.place in
    let q = c.requires in omega arith

pub loop-entry-preserved : goal.loop-entry-preserved
loop-entry-preserved c =
    let es = c.args.entries.now in
    let i = c.loop-entry.entry-index in
    let v : c.loop-entry.sum ≡ amount (take i es) c.args.owner c.args.block c.args.place = c.loop-entry.invariant in
    let s = amount_step es i c.args.owner c.args.block c.args.place c.share_of_branch-sum.result c.loop-entry-test.true c.share_of_branch-sum.ensures in omega arith
