use Rattle.std.proofs.Common.{◌∙◌, ◌≡◌, ◌++◌, ◌∷◌, [], length, arith}
use Rattle.rule_check.specs.Context.{outer}
use Rattle.range_split.specs.Places.{put_at}
use Rattle.range_split.proofs.StepsLemmas.{close_step, close_front, closed, none_case}
use Rattle.range_split.proofs.branch.close_branch.Goals as goal

pub each-preserved : goal.each-preserved
each-preserved c =
    let e : c.each.left.now ≡ c.in-Some.before.now ++ c.in-Some.place.now ∷ [] = cc c.in-Some.ensures in (
      close_step c.each.left.now c.in-Some.before.now c.in-Some.place.now c.each.context c.put.new.context _ c.args.branch.now.spots
          (put_at c.args.places.now c.args.context.now.spots (outer (length c.args.places.now) c.args.branch.now.spots)) e c.each.invariant.2
          c.get.ensures c.in_ok-put.ensures.ok c.each.invariant.0,
      c.in_ok-put.ensures.saved ∙ c.each.invariant.1,
      close_front c.each.left.now c.in-Some.before.now c.in-Some.place.now e c.each.invariant.2,
    )

pub returns-clause-ok : goal.returns-clause-ok
returns-clause-ok c = λ us p.
    let k : length c.args.places.now ≡ c.args.count = omega arith in
    closed c.each.left.now c.args.places.now c.args.count us c.args.context.now c.each.context c.args.branch.now.spots (none_case c.split_last.result _ _ c.in_default.is c.split_last.ensures) k c.each.invariant.1
    c.each.invariant.0 p
