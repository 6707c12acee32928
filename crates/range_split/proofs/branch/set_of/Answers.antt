use Rattle.std.proofs.Common.{ap, ◌∙◌, nat_eq}
use Rattle.std.specs.List.{list_any}
use Rattle.indexmap.specs.IndexSet.{contains}
use Rattle.range_split.proofs.StepsLemmas.{set_more, among_all}
use Rattle.range_split.proofs.branch.set_of.Goals as goal

pub each-init : goal.each-init
each-init c = λ v. ap (list_any (nat_eq v)) c.new-set.ensures.empty

pub each-preserved : goal.each-preserved
each-preserved c = λ v. c.in_ok-insert.ensures.updates.0 v ∙ set_more c.args.variables.now c.each.variable-index v (contains nat_eq c.each.set v) c.each-test.true (c.each.invariant v)

pub returns : goal.returns
returns c = λ v. c.each.invariant v ∙ among_all c.args.variables.now c.each.variable-index v c.each-test.false
