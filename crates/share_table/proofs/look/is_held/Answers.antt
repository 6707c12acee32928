use Rattle.std.proofs.Common.{◌≡◌, ℕ, ◌+◌, ◌<◌, ◌≤◌, take, arith}
use Rattle.share_table.specs.Amounts.{amount}
use Rattle.share_table.proofs.Sums.{amount_prefix, amount_step, some_true}
use Rattle.share_table.proofs.look.is_held.Goals as goal

pub returns-then-share_of_branch-gt0 : goal.returns-then-share_of_branch-gt0
returns-then-share_of_branch-gt0 c =
    let es = c.args.entries.now in
    let i = c.loop-entry.entry-index in
    let v : amount (take i es) c.args.owner c.args.block c.args.place ≡ 0 = c.loop-entry.invariant in
    let s = amount_step es i c.args.owner c.args.block c.args.place c.share_of_branch.result c.loop-entry-test.true c.share_of_branch.ensures in
    let p = amount_prefix es (i + 1) c.args.owner c.args.block c.args.place in
    let h = c.if-share_of_branch-gt0.true in
    some_true (amount es c.args.owner c.args.block c.args.place) (omega arith)

pub loop-entry-preserved : goal.loop-entry-preserved
loop-entry-preserved c =
    let es = c.args.entries.now in
    let i = c.loop-entry.entry-index in
    let v : amount (take i es) c.args.owner c.args.block c.args.place ≡ 0 = c.loop-entry.invariant in
    let s = amount_step es i c.args.owner c.args.block c.args.place c.share_of_branch.result c.loop-entry-test.true c.share_of_branch.ensures in
    let h = c.if-share_of_branch-gt0.false in omega arith
