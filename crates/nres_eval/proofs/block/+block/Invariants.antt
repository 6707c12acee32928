use Rattle.std.proofs.Common.{◌≡◌, ◌+◌, ◌-◌, ◌*◌, drop}
use Rattle.nres_core.specs.Mirror.{all_steps, blk_of, exp_of}
use Rattle.nres_eval.specs.Calls.{calls_of}
use Rattle.nres_eval.specs.Depth.{deepest}
use Rattle.nres_eval.specs.Environment.{Extends}
use Rattle.nres_eval.proofs.Bodies.{FirstSteps}
use Rattle.nres_eval.proofs.Loops.{FirstTurns, FirstEach}
use Rattle.nres_eval.proofs.block.+block.Given as goal

abbrev pub decreases-block : goal.decreases-block
decreases-block l = (3 + 2 * deepest l.at.now.procedures) * l.depth + (2 + 2 * goal.size-block l)

abbrev pub decreases-step : goal.decreases-step
decreases-step l = (3 + 2 * deepest l.at.now.procedures) * l.depth + (2 + 2 * goal.size-step l)

abbrev pub decreases-body : goal.decreases-body
decreases-body l = (3 + 2 * deepest l.at.now.procedures) * l.depth + (2 + 2 * goal.size-body l)

abbrev pub decreases-on_part : goal.decreases-on_part
decreases-on_part l = (3 + 2 * deepest l.at.now.procedures) * l.depth + (3 + 2 * goal.size-on_part l)

abbrev pub decreases-repeated : goal.decreases-repeated
decreases-repeated l = (3 + 2 * deepest l.at.now.procedures) * l.depth + (3 + 2 * goal.size-repeated l)

abbrev pub decreases-each : goal.decreases-each
decreases-each l = (3 + 2 * deepest l.at.now.procedures) * l.depth + (3 + 2 * goal.size-each l)

abbrev pub decreases-call : goal.decreases-call
decreases-call l = (3 + 2 * deepest l.at.now.procedures) * l.depth

abbrev pub invariant-block-loop-inner : goal.invariant-block-loop-inner
invariant-block-loop-inner l =
    let call = calls_of l.at.procedures l.at.turns l.depth in
    (FirstSteps l.at.turns call l.initial.env (all_steps l.inner-items) ≡ FirstSteps l.at.turns call l.env (all_steps (drop l.inner-index l.inner-items))) × Extends l.initial.env l.env

abbrev pub invariant-repeated-loop-made : goal.invariant-repeated-loop-made
invariant-repeated-loop-made l =
    let call = calls_of l.at.procedures l.at.turns l.depth in
    (FirstTurns l.at.turns call l.line l.vars (blk_of l.tree) l.initial.env (exp_of l.test) l.at.turns l.initial.values ≡ FirstTurns l.at.turns call l.line l.vars (blk_of l.tree) l.initial.env (exp_of l.test) (l.at.turns - l.made) l.values) × (l.env ≡ l.initial.env)

abbrev pub invariant-each-loop-element : goal.invariant-each-loop-element
invariant-each-loop-element l =
    let call = calls_of l.at.procedures l.at.turns l.depth in
    (FirstEach l.at.turns call l.line l.vars (blk_of l.tree) l.initial.env l.var l.at.turns l.elements l.initial.values ≡ FirstEach l.at.turns call l.line l.vars (blk_of l.tree) l.initial.env l.var l.left (drop l.element-index l.elements) l.values) × (l.env ≡ l.initial.env)
