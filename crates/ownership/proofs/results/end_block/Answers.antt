use Rattle.std.proofs.Common.{◌≡◌, ◌∙◌, ◌+◌, sym, ap, arith}
use Rattle.context_laws.proofs.StacksLemmas.{outer_whole}
use Rattle.rule_check.specs.Context as d
use Rattle.ownership.proofs.StepsLemmas.{none_inside, slices_step, slice_deeper}
use Rattle.ownership.proofs.results.end_block.Goals as goal

pub each-init : goal.each-init
each-init c = none_inside c.args.count c.args.context.now.spots

pub returns-in-Some : goal.returns-in-Some
returns-in-Some c = sym (slice_deeper c.args.count (c.each.index + 1) c.args.context.now.spots c.in-Some.var
    (slices_step c.args.count c.each.index c.args.context.now.spots (omega arith) c.each.invariant ∙ sym c.owned_slice_at.ensures ∙ c.in-Some.is))

pub each-preserved : goal.each-preserved
each-preserved c = slices_step c.args.count c.each.index c.args.context.now.spots (omega arith) c.each.invariant ∙ sym c.owned_slice_at.ensures ∙ c.in_default.is

pub returns : goal.returns
returns c = sym (ap (λ z. d.first_slice (d.inner c.args.count z)) (sym (outer_whole c.each.index c.args.context.now.spots (omega arith))) ∙ c.each.invariant)
