use Rattle.std.proofs.Common.{ap, ◌∙◌, ◌++◌}
use Rattle.std.proofs.lemmas.List.{append-nil}
use Rattle.rule_check.specs.Context.{all_lend}
use Rattle.range_split.specs.Places.{picked}
use Rattle.range_split.proofs.StepsLemmas.{open_step, saved_step, ascend_step, opened}
use Rattle.range_split.proofs.branch.open_branch.Goals as goal

pub each-init : goal.each-init
each-init c = (
  ap (λ z. picked c.args.places.now (all_lend c.args.others.now c.args.context.now.spots) ++ z) c.new-branch.ensures.spots ∙ append-nil (picked c.args.places.now (all_lend c.args.others.now c.args.context.now.spots)),
  c.new-branch.ensures.saved,
  c.requires,
)

pub each-preserved : goal.each-preserved
each-preserved c =
    let e = c.in_ok-add_lent.ensures c.args.others.now c.in_ok-shared.ensures in (
      open_step c.args.places.now c.each.place-index c.args.context.now.spots c.args.others.now _ c.each.branch c.add_lent.new.branch (picked c.args.places.now (all_lend c.args.others.now c.args.context.now.spots))
          c.each-test.true c.each.invariant.2 c.get.ensures e c.each.invariant.0,
      saved_step c.args.others.now _ c.each.branch c.add_lent.new.branch e ∙ c.each.invariant.1,
      ascend_step c.args.places.now c.each.place-index c.each-test.true c.each.invariant.2,
    )

pub returns-clause-spots : goal.returns-clause-spots
returns-clause-spots c = λ us p. opened c.args.places.now c.each.place-index c.args.context.now.spots us c.args.others.now c.each.branch c.each-test.false p c.each.invariant.0
