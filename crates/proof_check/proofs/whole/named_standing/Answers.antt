use Rattle.proof_check.proofs.Stood.{enough_others, front_inside, told_none, told_some}
use Rattle.proof_check.proofs.whole.named_standing.Goals as goal

pub split_at-requires : goal.split_at-requires
split_at-requires c = enough_others c.args.count c.args.procs.now c.args.others.now c.requires

pub split_at-requires-2 : goal.split_at-requires-2
split_at-requires-2 c = front_inside c.args.count c.args.procs.now c.args.others.now c.requires c.split_at.result.1.now c.in_ok-branches.branches c.in_ok-branches.ensures

pub returns-then-branch : goal.returns-then-branch
returns-then-branch c =
    told_some c.args.count c.args.procs.now c.args.others.now c.requires c.split_at.result.0.now c.split_at.result.1.now c.before-ours.result.now c.split_at-2.result.1.now c.split_at.ensures.front
    c.split_at.ensures.back c.in_ok-branches.branches c.in_ok-branches.ensures c.split_at-2.ensures.back c.before-ours.ensures c.in_ok-called_stand.field-0 c.in_ok-called_stand.ensures c.if-branch.true

pub returns-else-branch : goal.returns-else-branch
returns-else-branch c =
    told_none c.args.count c.args.procs.now c.args.others.now c.requires c.split_at.result.0.now c.split_at.result.1.now c.before-ours.result.now c.split_at-2.result.1.now c.split_at.ensures.front
    c.split_at.ensures.back c.in_ok-branches.branches c.in_ok-branches.ensures c.split_at-2.ensures.back c.before-ours.ensures c.in_ok-called_stand.field-0 c.in_ok-called_stand.ensures c.if-branch.false
