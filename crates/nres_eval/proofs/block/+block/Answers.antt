use Rattle.std.proofs.Common.{◌≡◌, suc, ◌+◌, ◌-◌, ◌∷◌, [], ◌++◌, cond, drop, get_or, refl, ap, sym, ◌∙◌, arith}
use Rattle.std.specs.Option.{option_copied}
use Rattle.nres_core.specs.Mirror.{all_steps, blk_of, exp_of, named_params}
use Rattle.nres_core.specs.Runs.{Fell, Gave, Late, first_path}
use Rattle.nres_core.specs.declared.value.Value.TheVariants as v
use Rattle.nres_meaning.specs.Meaning as meaning
use Rattle.nres_meaning.specs.Meaning.{blk_runs, bound, head_of, tail_of}
use Rattle.nres_meaning.specs.WordOperations.{op_named}
use Rattle.nres_eval.specs.Bodies.{each_runs, holds_runs, part_runs, turns_runs}
use Rattle.nres_core.specs.declared.tree.Block.{size-Block}
use Rattle.nres_eval.specs.Calls.{calls_of}
use Rattle.nres_eval.specs.Depth.{deepest}
use Rattle.nres_eval.proofs.Bodies.{FirstBlock, FirstSteps, any_path, assert_path, bind_path, bound_later, call_path, each_path, either_path, end_path, further, if_path, item_path, left_env, one_later, par_path, same_later, split_path, take_path, value_path, while_path}
use Rattle.nres_eval.proofs.Calls.{no_procedure, procedure, too_deep}
use Rattle.nres_eval.proofs.Depths.{deeper_call, found_within}
use Rattle.nres_eval.proofs.Loops.{FirstEach, FirstTurns, element_done, element_late, element_path, late_path, turn_path}
use Rattle.nres_eval.proofs.Paths.{behind, exits, halts, next, next_item, starved, stop, tells_all, told}
use Rattle.nres_eval.proofs.block.+block.Goals as goal

-- ---- blocks

pub block-loop-inner-init : goal.block-loop-inner-init
block-loop-inner-init t c = (refl, ([], refl))

pub block-returns-in_err-step-clause-runs : goal.block-returns-in_err-step-clause-runs
block-returns-in_err-step-clause-runs t c =
    stop _ _ _ _ (item_path _ _ _ _ _ _ c.loop-inner.inner-index c.as_slice-inner-items.ensures c.loop-inner.invariant.0 c.loop-inner-test.true c.inner-item.is) c.from_residual.ensures.1
    (tells_all (Unit {0}) _ _ _ (c.in_err-step.ensures.runs (all_steps (drop (c.loop-inner.inner-index + 1) c.as_slice-inner-items.result.now))))

pub block-loop-inner-preserved : goal.block-loop-inner-preserved
block-loop-inner-preserved t c =
    let call = calls_of c.args.at.now.procedures c.args.at.now.turns c.args.depth in (
      c.loop-inner.invariant.0
          ∙ ap (λ z. FirstSteps c.args.at.now.turns call c.loop-inner.env (all_steps z)) (next_item c.as_slice-inner-items.result.now c.loop-inner.inner-index c.loop-inner-test.true c.inner-item.is)
          ∙ c.in_ok-step.ensures.runs (all_steps (drop (c.loop-inner.inner-index + 1) c.as_slice-inner-items.result.now)),
      further c.loop-inner.invariant.1 c.in_ok-step.ensures.scope,
    )

pub block-returns-in_err-results-clause-runs : goal.block-returns-in_err-results-clause-runs
block-returns-in_err-results-clause-runs t c =
    exits _ _ (end_path _ _ _ _ _ _ c.loop-inner.inner-index c.as_slice-inner-items.ensures c.loop-inner.invariant.0 c.loop-inner-test.false c.as_slice.ensures) c.from_residual-in_err-results.ensures.1 c.in_err-results.ensures

pub block-returns-clause-runs : goal.block-returns-clause-runs
block-returns-clause-runs t c =
    end_path _ _ _ _ _ _ c.loop-inner.inner-index c.as_slice-inner-items.ensures c.loop-inner.invariant.0 c.loop-inner-test.false c.as_slice.ensures ∙ c.in_ok-results.ensures

pub block-returns-clause-scope : goal.block-returns-clause-scope
block-returns-clause-scope t c = left_env c.len-mark.ensures c.loop-inner.invariant.1 c.leave.ensures

-- ---- bodies

pub body-returns-in-Value-clause-runs : goal.body-returns-in-Value-clause-runs
body-returns-in-Value-clause-runs t c = told _ (value_path _ _ _ _ c.in-Value.is refl) c.value.ensures

pub body-returns-in-Take-clause-runs : goal.body-returns-in-Take-clause-runs
body-returns-in-Take-clause-runs t c = told _ (take_path _ _ _ _ c.in-Take.is refl) c.taken.ensures

pub body-returns-in-Any-clause-runs : goal.body-returns-in-Any-clause-runs
body-returns-in-Any-clause-runs t c = told _ (any_path _ _ _ _ c.in-Any.is refl refl) c.least_between.ensures

pub body-returns-in_err-holds-in-If-clause-runs : goal.body-returns-in_err-holds-in-If-clause-runs
body-returns-in_err-holds-in-If-clause-runs t c = stop _ _ _ _ (if_path _ _ _ _ _ _ c.in-If.is refl) c.from_residual.ensures.1 c.in_err-holds-in-If.ensures

pub body-returns-then-branch-clause-runs : goal.body-returns-then-branch-clause-runs
body-returns-then-branch-clause-runs t c =
    let call = calls_of c.args.at.now.procedures c.args.at.now.turns c.args.depth in
    let one = FirstBlock c.args.at.now.turns call c.args.env.now in
    told _ (next _ (if_path _ _ _ _ c.in-If.yes c.in-If.no c.in-If.is refl) c.in_ok-holds-in-If.ensures ∙ ap (λ b. cond b (one c.in-If.yes) (one c.in-If.no)) c.if-branch.true) c.block.ensures.runs

pub body-returns-else-branch-clause-runs : goal.body-returns-else-branch-clause-runs
body-returns-else-branch-clause-runs t c =
    let call = calls_of c.args.at.now.procedures c.args.at.now.turns c.args.depth in
    let one = FirstBlock c.args.at.now.turns call c.args.env.now in
    told _ (next _ (if_path _ _ _ _ c.in-If.yes c.in-If.no c.in-If.is refl) c.in_ok-holds-in-If.ensures ∙ ap (λ b. cond b (one c.in-If.yes) (one c.in-If.no)) c.if-branch.false) c.block-else-branch.ensures.runs

pub body-returns-in_err-starts-in-While-clause-runs : goal.body-returns-in_err-starts-in-While-clause-runs
body-returns-in_err-starts-in-While-clause-runs t c = stop _ _ _ _ (while_path _ _ _ _ _ c.in-While.is c.as_slice.ensures) c.from_residual-in_err-starts-in-While.ensures.1 c.in_err-starts-in-While.ensures

pub body-returns-in_ok-starts-in-While-clause-runs : goal.body-returns-in_ok-starts-in-While-clause-runs
body-returns-in_ok-starts-in-While-clause-runs t c =
    let call = calls_of c.args.at.now.procedures c.args.at.now.turns c.args.depth in
    told _ (next _ (while_path _ _ _ _ _ c.in-While.is c.as_slice.ensures) c.in_ok-starts-in-While.ensures
    ∙ ap (λ z. first_path (turns_runs c.args.at.now.turns call c.args.line (exp_of c.in-While.test) z (blk_of c.in-While.inner) c.args.env.now c.args.at.now.turns c.in_ok-starts-in-While.starts)) (sym c.as_slice-in-While.ensures))
    c.repeated.ensures.runs

pub body-returns-in_err-values-in-Par-clause-runs : goal.body-returns-in_err-values-in-Par-clause-runs
body-returns-in_err-values-in-Par-clause-runs t c = stop _ _ _ _ (par_path _ _ _ _ _ _ c.in-Par.is) c.from_residual-in_err-values-in-Par.ensures.1 c.in_err-values-in-Par.ensures.runs

pub body-returns-in_err-others-in-Par-clause-runs : goal.body-returns-in_err-others-in-Par-clause-runs
body-returns-in_err-others-in-Par-clause-runs t c =
    let call = calls_of c.args.at.now.procedures c.args.at.now.turns c.args.depth in
    stop _ _ _ _ (next _ (par_path _ _ _ _ _ _ c.in-Par.is) c.in_ok-values-in-Par.ensures.runs
    ∙ ap (λ w. behind (FirstBlock c.args.at.now.turns call w c.in-Par.right) (λ vs. Gave (c.in_ok-values-in-Par.values ++ vs))) (sym c.in_ok-values-in-Par.ensures.scope))
    c.from_residual-in_err-others-in-Par.ensures.1 c.in_err-others-in-Par.ensures.runs

pub body-returns-in_ok-others-in-Par-clause-runs : goal.body-returns-in_ok-others-in-Par-clause-runs
body-returns-in_ok-others-in-Par-clause-runs t c =
    let call = calls_of c.args.at.now.procedures c.args.at.now.turns c.args.depth in
    told _ (next _ (next _ (par_path _ _ _ _ _ _ c.in-Par.is) c.in_ok-values-in-Par.ensures.runs
    ∙ ap (λ w. behind (FirstBlock c.args.at.now.turns call w c.in-Par.right) (λ vs. Gave (c.in_ok-values-in-Par.values ++ vs))) (sym c.in_ok-values-in-Par.ensures.scope))
    c.in_ok-others-in-Par.ensures.runs)
    c.appended.ensures

pub body-returns-in_err-front-in-Split-clause-runs : goal.body-returns-in_err-front-in-Split-clause-runs
body-returns-in_err-front-in-Split-clause-runs t c = stop _ _ _ _ (split_path _ _ _ _ _ _ c.in-Split.is refl) c.from_residual-in_err-front-in-Split.ensures.1 c.in_err-front-in-Split.ensures

pub body-returns-in_err-values-in-Split-clause-runs : goal.body-returns-in_err-values-in-Split-clause-runs
body-returns-in_err-values-in-Split-clause-runs t c =
    stop _ _ _ _ (next _ (split_path _ _ _ _ _ _ c.in-Split.is refl) c.in_ok-front-in-Split.ensures) c.from_residual-in_err-values-in-Split.ensures.1 c.in_err-values-in-Split.ensures.runs

pub body-returns-in_err-others-in-Split-clause-runs : goal.body-returns-in_err-others-in-Split-clause-runs
body-returns-in_err-others-in-Split-clause-runs t c =
    let call = calls_of c.args.at.now.procedures c.args.at.now.turns c.args.depth in
    let us = c.in_ok-values-in-Split.values in
    let path = next _ (next _ (split_path _ _ _ _ _ _ c.in-Split.is refl) c.in_ok-front-in-Split.ensures) c.in_ok-values-in-Split.ensures.runs
    ∙ ap (λ w. behind (first_path (part_runs c.args.at.now.turns call (blk_of c.in-Split.right) c.in-Split.right_name.name c.in_ok-front-in-Split.back w)) (λ vs. first_path (meaning.joined c.args.line (head_of us) (head_of vs) (tail_of us ++ tail_of vs)))) (sym c.in_ok-values-in-Split.ensures.scope) in
    stop _ _ _ _ path c.from_residual-in_err-others-in-Split.ensures.1 c.in_err-others-in-Split.ensures.runs

pub body-returns-in_ok-others-in-Split-clause-runs : goal.body-returns-in_ok-others-in-Split-clause-runs
body-returns-in_ok-others-in-Split-clause-runs t c =
    let call = calls_of c.args.at.now.procedures c.args.at.now.turns c.args.depth in
    let us = c.in_ok-values-in-Split.values in
    let path = next _ (next _ (split_path _ _ _ _ _ _ c.in-Split.is refl) c.in_ok-front-in-Split.ensures) c.in_ok-values-in-Split.ensures.runs
    ∙ ap (λ w. behind (first_path (part_runs c.args.at.now.turns call (blk_of c.in-Split.right) c.in-Split.right_name.name c.in_ok-front-in-Split.back w)) (λ vs. first_path (meaning.joined c.args.line (head_of us) (head_of vs) (tail_of us ++ tail_of vs)))) (sym c.in_ok-values-in-Split.ensures.scope) in
    told _ (next _ path c.in_ok-others-in-Split.ensures.runs) c.joined.ensures

pub body-returns-in-Either-clause-runs : goal.body-returns-in-Either-clause-runs
body-returns-in-Either-clause-runs t c = told _ (either_path _ _ _ _ _ _ c.in-Either.is) c.block-in-Either.ensures.runs

pub body-returns-in_err-found-in-Foreach-clause-runs : goal.body-returns-in_err-found-in-Foreach-clause-runs
body-returns-in_err-found-in-Foreach-clause-runs t c = stop _ _ _ _ (each_path _ _ _ _ _ c.in-Foreach.is refl) c.from_residual-in_err-found-in-Foreach.ensures.1 c.in_err-found-in-Foreach.ensures

pub body-returns-in_err-starts-in-Foreach-clause-runs : goal.body-returns-in_err-starts-in-Foreach-clause-runs
body-returns-in_err-starts-in-Foreach-clause-runs t c =
    stop _ _ _ _ (next _ (each_path _ _ _ _ _ c.in-Foreach.is c.as_slice-in-Foreach.ensures) c.in_ok-found-in-Foreach.ensures) c.from_residual-in_err-starts-in-Foreach.ensures.1 c.in_err-starts-in-Foreach.ensures

pub body-returns-in_ok-starts-in-Foreach-clause-runs : goal.body-returns-in_ok-starts-in-Foreach-clause-runs
body-returns-in_ok-starts-in-Foreach-clause-runs t c =
    let call = calls_of c.args.at.now.procedures c.args.at.now.turns c.args.depth in
    told _ (next _ (next _ (each_path _ _ _ _ _ c.in-Foreach.is c.as_slice-in-Foreach.ensures) c.in_ok-found-in-Foreach.ensures) c.in_ok-starts-in-Foreach.ensures
    ∙ (λ i. first_path (each_runs c.args.at.now.turns call c.args.line c.in-Foreach.var.name (sym c.as_slice-in-Foreach-2.ensures i) (blk_of c.in-Foreach.inner) c.args.env.now c.args.at.now.turns (sym c.as_slice-in-Foreach-3.ensures i) c.in_ok-starts-in-Foreach.starts)))
    c.each.ensures.runs

pub body-returns-in_err-args-in-Call-clause-runs : goal.body-returns-in_err-args-in-Call-clause-runs
body-returns-in_err-args-in-Call-clause-runs t c = stop _ _ _ _ (call_path _ _ _ _ c.in-Call.is c.as_slice-in-Call.ensures) c.from_residual-in_err-args-in-Call.ensures.1 c.in_err-args-in-Call.ensures

pub body-returns-in_ok-args-in-Call-clause-runs : goal.body-returns-in_ok-args-in-Call-clause-runs
body-returns-in_ok-args-in-Call-clause-runs t c =
    let call = calls_of c.args.at.now.procedures c.args.at.now.turns c.args.depth in
    told _ (next _ (call_path _ _ _ _ c.in-Call.is c.as_slice-in-Call.ensures) c.in_ok-args-in-Call.ensures ∙ ap (λ z. first_path (call c.args.line c.in-Call.fun.name z)) (sym c.as_slice-in-Call-2.ensures))
    c.call.ensures

-- ---- calls

pub call-returns-then-depth-eq0 : goal.call-returns-then-depth-eq0
call-returns-then-depth-eq0 t c = too_deep _ _ _ _ _ _ c.if-depth-eq0.true

pub call-returns-in_default : goal.call-returns-in_default
call-returns-in_default t c = no_procedure _ _ _ _ _ _ c.if-depth-eq0.false (sym c.find.ensures ∙ ap option_copied c.in_default.is)

pub call-block-requires : goal.call-block-requires
call-block-requires t c =
    let found = sym c.find.ensures ∙ ap option_copied c.in-Some.is in
    let less = deeper_call (deepest c.args.at.now.procedures) c.args.depth (size-Block c.in-Some.fun.now.body) c.if-depth-eq0.false (found_within c.args.name.now c.args.at.now.procedures c.in-Some.fun.now found) in
    (omega (arith, less, c.decreases), tt)

pub call-returns : goal.call-returns
call-returns t c =
    let call = calls_of c.args.at.now.procedures c.args.at.now.turns (c.args.depth - 1) in
    told _ (procedure _ _ _ _ _ _ c.in-Some.fun.now c.if-depth-eq0.false (sym c.find.ensures ∙ ap option_copied c.in-Some.is)
    ∙ ap (λ w. first_path (blk_runs op_named c.args.at.now.turns call (blk_of c.in-Some.fun.now.body) w))
    (sym (c.in_ok-bind_params.ensures ∙ (λ i. bound (named_params (c.as_slice.ensures i)) c.args.args.now (c.new-env.ensures i)))))
    c.block.ensures.runs

-- ---- a turn for each element

pub each-loop-element-init : goal.each-loop-element-init
each-loop-element-init t c = (refl, refl)

pub each-returns-then-left-eq0-clause-runs : goal.each-returns-then-left-eq0-clause-runs
each-returns-then-left-eq0-clause-runs t c = c.loop-element.invariant.0 ∙ element_late c.args.at.now.turns (calls_of c.args.at.now.procedures c.args.at.now.turns c.args.depth) c.args.line c.args.vars.now (blk_of c.args.tree.now) c.args.env.now c.args.var.now c.loop-element.left c.args.elements.now c.loop-element.element-index c.loop-element.values c.if-left-eq0.true c.loop-element-test.true

pub each-returns-in_err-values-clause-runs : goal.each-returns-in_err-values-clause-runs
each-returns-in_err-values-clause-runs t c =
    let call = calls_of c.args.at.now.procedures c.args.at.now.turns c.args.depth in
    let N = c.args.at.now.turns in
    let m = c.loop-element.left - 1 in
    let one : c.loop-element.left ≡ suc m = omega (arith, c.if-left-eq0.false) in
    let now : c.bind_all.new.self ≡ bound c.args.vars.now c.loop-element.values ((c.args.var.now, v.Nat (get_or c.args.elements.now c.loop-element.element-index 0)) ∷ c.args.env.now) =
    c.in_ok-bind_all.ensures ∙ (λ i. bound c.args.vars.now (c.as_slice.ensures i) ((c.in_ok-bind.ensures ∙ ap (λ e. (c.args.var.now, v.Nat (get_or c.args.elements.now c.loop-element.element-index 0)) ∷ e) c.loop-element.invariant.1) i)) in
    let path =
    element_path N call c.args.line c.args.vars.now (blk_of c.args.tree.now) c.args.env.now c.args.var.now m c.args.elements.now c.loop-element.element-index c.loop-element.values c.loop-element-test.true
    (c.loop-element.invariant.0 ∙ ap (λ k. FirstEach N call c.args.line c.args.vars.now (blk_of c.args.tree.now) c.args.env.now c.args.var.now k (drop c.loop-element.element-index c.args.elements.now) c.loop-element.values) one)
    ∙ ap (λ w. behind (FirstBlock N call w c.args.tree.now) (FirstEach N call c.args.line c.args.vars.now (blk_of c.args.tree.now) c.args.env.now c.args.var.now m (drop (c.loop-element.element-index + 1) c.args.elements.now))) (sym now) in
    stop _ _ _ _ path c.from_residual-in_err-values.ensures.1 c.in_err-values.ensures.runs

pub each-loop-element-preserved : goal.each-loop-element-preserved
each-loop-element-preserved t c =
    let call = calls_of c.args.at.now.procedures c.args.at.now.turns c.args.depth in
    let N = c.args.at.now.turns in
    let m = c.loop-element.left - 1 in
    let one : c.loop-element.left ≡ suc m = omega (arith, c.if-left-eq0.false) in
    let now : c.bind_all.new.self ≡ bound c.args.vars.now c.loop-element.values ((c.args.var.now, v.Nat (get_or c.args.elements.now c.loop-element.element-index 0)) ∷ c.args.env.now) =
    c.in_ok-bind_all.ensures ∙ (λ i. bound c.args.vars.now (c.as_slice.ensures i) ((c.in_ok-bind.ensures ∙ ap (λ e. (c.args.var.now, v.Nat (get_or c.args.elements.now c.loop-element.element-index 0)) ∷ e) c.loop-element.invariant.1) i)) in
    let path =
    element_path N call c.args.line c.args.vars.now (blk_of c.args.tree.now) c.args.env.now c.args.var.now m c.args.elements.now c.loop-element.element-index c.loop-element.values c.loop-element-test.true
    (c.loop-element.invariant.0 ∙ ap (λ k. FirstEach N call c.args.line c.args.vars.now (blk_of c.args.tree.now) c.args.env.now c.args.var.now k (drop c.loop-element.element-index c.args.elements.now) c.loop-element.values) one)
    ∙ ap (λ w. behind (FirstBlock N call w c.args.tree.now) (FirstEach N call c.args.line c.args.vars.now (blk_of c.args.tree.now) c.args.env.now c.args.var.now m (drop (c.loop-element.element-index + 1) c.args.elements.now))) (sym now) in
    (next _ path c.in_ok-values.ensures.runs, left_env c.len-mark.ensures (same_later (c.in_ok-values.ensures.scope ∙ now) (further (one_later c.args.var.now (v.Nat (get_or c.args.elements.now c.loop-element.element-index 0)) c.args.env.now) (bound_later c.args.vars.now c.loop-element.values ((c.args.var.now, v.Nat (get_or c.args.elements.now c.loop-element.element-index 0)) ∷ c.args.env.now)))) c.leave.ensures)

pub each-returns-clause-runs : goal.each-returns-clause-runs
each-returns-clause-runs t c = c.loop-element.invariant.0 ∙ element_done c.args.at.now.turns (calls_of c.args.at.now.procedures c.args.at.now.turns c.args.depth) c.args.line c.args.vars.now (blk_of c.args.tree.now) c.args.env.now c.args.var.now c.loop-element.left c.args.elements.now c.loop-element.element-index c.loop-element.values c.loop-element-test.false

pub each-returns-clause-scope : goal.each-returns-clause-scope
each-returns-clause-scope t c = c.loop-element.invariant.1

-- ---- a block on a part of a list

pub on_part-returns-in_err-values-clause-runs : goal.on_part-returns-in_err-values-clause-runs
on_part-returns-in_err-values-clause-runs t c =
    let call = calls_of c.args.at.now.procedures c.args.at.now.turns c.args.depth in
    exits _ _ (ap (λ w. FirstBlock c.args.at.now.turns call w c.args.tree.now) (sym c.in_ok-bind.ensures)) c.from_residual-in_err-values.ensures.1 c.in_err-values.ensures.runs

pub on_part-returns-clause-runs : goal.on_part-returns-clause-runs
on_part-returns-clause-runs t c =
    let call = calls_of c.args.at.now.procedures c.args.at.now.turns c.args.depth in
    ap (λ w. FirstBlock c.args.at.now.turns call w c.args.tree.now) (sym c.in_ok-bind.ensures) ∙ c.in_ok-values.ensures.runs

pub on_part-returns-clause-scope : goal.on_part-returns-clause-scope
on_part-returns-clause-scope t c = left_env c.len-mark.ensures (same_later (c.in_ok-values.ensures.scope ∙ c.in_ok-bind.ensures) (one_later _ _ _)) c.leave.ensures

-- ---- a loop with a test

pub repeated-loop-made-init : goal.repeated-loop-made-init
repeated-loop-made-init t c =
    let call = calls_of c.args.at.now.procedures c.args.at.now.turns c.args.depth in
    (ap (λ m. FirstTurns c.args.at.now.turns call c.args.line c.args.vars.now (blk_of c.args.tree.now) c.args.env.now (exp_of c.args.test.now) m c.args.starts) (omega arith), refl)

pub repeated-returns-in_err-goes_on-clause-runs : goal.repeated-returns-in_err-goes_on-clause-runs
repeated-returns-in_err-goes_on-clause-runs t c =
    let call = calls_of c.args.at.now.procedures c.args.at.now.turns c.args.depth in
    let N = c.args.at.now.turns in
    let e = exp_of c.args.test.now in
    let vs = c.loop-made.values in
    let now : bound c.args.vars.now c.as_slice.result.now c.loop-made.env ≡ bound c.args.vars.now vs c.args.env.now = λ i. bound c.args.vars.now (c.as_slice.ensures i) (c.loop-made.invariant.1 i) in
    let more = FirstTurns N call c.args.line c.args.vars.now (blk_of c.args.tree.now) c.args.env.now e (N - (c.loop-made.made + 1)) in
    let goes = behind (first_path (blk_runs op_named N call (blk_of c.args.tree.now) (bound c.args.vars.now vs c.args.env.now))) more in
    let path = turn_path N call c.args.line c.args.vars.now (blk_of c.args.tree.now) c.args.env.now e N c.loop-made.made vs c.loop-made-test.true c.loop-made.invariant.0
    ∙ ap (λ w. behind (first_path (holds_runs c.args.line e w)) (λ b. cond b goes (Gave vs))) (sym now) in
    stop _ _ _ _ path c.from_residual.ensures.1 c.in_err-goes_on.ensures.runs

pub repeated-returns-then-not-goes_on-clause-runs : goal.repeated-returns-then-not-goes_on-clause-runs
repeated-returns-then-not-goes_on-clause-runs t c =
    let call = calls_of c.args.at.now.procedures c.args.at.now.turns c.args.depth in
    let N = c.args.at.now.turns in
    let e = exp_of c.args.test.now in
    let vs = c.loop-made.values in
    let now : bound c.args.vars.now c.as_slice.result.now c.loop-made.env ≡ bound c.args.vars.now vs c.args.env.now = λ i. bound c.args.vars.now (c.as_slice.ensures i) (c.loop-made.invariant.1 i) in
    let more = FirstTurns N call c.args.line c.args.vars.now (blk_of c.args.tree.now) c.args.env.now e (N - (c.loop-made.made + 1)) in
    let goes = behind (first_path (blk_runs op_named N call (blk_of c.args.tree.now) (bound c.args.vars.now vs c.args.env.now))) more in
    let path = turn_path N call c.args.line c.args.vars.now (blk_of c.args.tree.now) c.args.env.now e N c.loop-made.made vs c.loop-made-test.true c.loop-made.invariant.0
    ∙ ap (λ w. behind (first_path (holds_runs c.args.line e w)) (λ b. cond b goes (Gave vs))) (sym now) in
    next _ path c.in_ok-goes_on.ensures.runs ∙ ap (λ b. cond b goes (Gave vs)) c.if-not-goes_on.true

pub repeated-returns-in_err-values-clause-runs : goal.repeated-returns-in_err-values-clause-runs
repeated-returns-in_err-values-clause-runs t c =
    let call = calls_of c.args.at.now.procedures c.args.at.now.turns c.args.depth in
    let N = c.args.at.now.turns in
    let e = exp_of c.args.test.now in
    let vs = c.loop-made.values in
    let now : bound c.args.vars.now c.as_slice.result.now c.loop-made.env ≡ bound c.args.vars.now vs c.args.env.now = λ i. bound c.args.vars.now (c.as_slice.ensures i) (c.loop-made.invariant.1 i) in
    let more = FirstTurns N call c.args.line c.args.vars.now (blk_of c.args.tree.now) c.args.env.now e (N - (c.loop-made.made + 1)) in
    let goes = behind (first_path (blk_runs op_named N call (blk_of c.args.tree.now) (bound c.args.vars.now vs c.args.env.now))) more in
    let path = turn_path N call c.args.line c.args.vars.now (blk_of c.args.tree.now) c.args.env.now e N c.loop-made.made vs c.loop-made-test.true c.loop-made.invariant.0
    ∙ ap (λ w. behind (first_path (holds_runs c.args.line e w)) (λ b. cond b goes (Gave vs))) (sym now) in
    let inside : c.tested.new.env ≡ bound c.args.vars.now vs c.args.env.now = c.in_ok-goes_on.ensures.scope ∙ now in
    let path2 = next _ path c.in_ok-goes_on.ensures.runs ∙ ap (λ b. cond b goes (Gave vs)) c.if-not-goes_on.false ∙ ap (λ w. behind (FirstBlock N call w c.args.tree.now) more) (sym inside) in
    stop _ _ _ _ path2 c.from_residual-in_err-values.ensures.1 c.in_err-values.ensures.runs

pub repeated-loop-made-preserved : goal.repeated-loop-made-preserved
repeated-loop-made-preserved t c =
    let call = calls_of c.args.at.now.procedures c.args.at.now.turns c.args.depth in
    let N = c.args.at.now.turns in
    let e = exp_of c.args.test.now in
    let vs = c.loop-made.values in
    let now : bound c.args.vars.now c.as_slice.result.now c.loop-made.env ≡ bound c.args.vars.now vs c.args.env.now = λ i. bound c.args.vars.now (c.as_slice.ensures i) (c.loop-made.invariant.1 i) in
    let more = FirstTurns N call c.args.line c.args.vars.now (blk_of c.args.tree.now) c.args.env.now e (N - (c.loop-made.made + 1)) in
    let goes = behind (first_path (blk_runs op_named N call (blk_of c.args.tree.now) (bound c.args.vars.now vs c.args.env.now))) more in
    let path = turn_path N call c.args.line c.args.vars.now (blk_of c.args.tree.now) c.args.env.now e N c.loop-made.made vs c.loop-made-test.true c.loop-made.invariant.0
    ∙ ap (λ w. behind (first_path (holds_runs c.args.line e w)) (λ b. cond b goes (Gave vs))) (sym now) in
    let inside : c.tested.new.env ≡ bound c.args.vars.now vs c.args.env.now = c.in_ok-goes_on.ensures.scope ∙ now in
    let path2 = next _ path c.in_ok-goes_on.ensures.runs ∙ ap (λ b. cond b goes (Gave vs)) c.if-not-goes_on.false ∙ ap (λ w. behind (FirstBlock N call w c.args.tree.now) more) (sym inside) in
    (next _ path2 c.in_ok-values.ensures.runs, left_env c.len-mark.ensures (same_later (c.in_ok-values.ensures.scope ∙ inside) (bound_later c.args.vars.now vs c.args.env.now)) c.leave-in-loop-made.ensures)

pub repeated-returns-in_err-goes_on-2-clause-runs : goal.repeated-returns-in_err-goes_on-2-clause-runs
repeated-returns-in_err-goes_on-2-clause-runs t c =
    let call = calls_of c.args.at.now.procedures c.args.at.now.turns c.args.depth in
    let N = c.args.at.now.turns in
    let e = exp_of c.args.test.now in
    let vs = c.loop-made.values in
    let now : bound c.args.vars.now c.as_slice-2.result.now c.loop-made.env ≡ bound c.args.vars.now vs c.args.env.now = λ i. bound c.args.vars.now (c.as_slice-2.ensures i) (c.loop-made.invariant.1 i) in
    let none : N - c.loop-made.made ≡ 0 = omega (arith, c.loop-made-test.false) in
    let path = late_path N call c.args.line c.args.vars.now (blk_of c.args.tree.now) c.args.env.now e (N - c.loop-made.made) vs none c.loop-made.invariant.0
    ∙ ap (λ w. behind (first_path (holds_runs c.args.line e w)) (λ b. cond b (Late c.args.line) (Gave vs))) (sym now) in
    stop _ _ _ _ path c.from_residual-in_err-goes_on-2.ensures.1 c.in_err-goes_on-2.ensures.runs

pub repeated-returns-then-goes_on-clause-runs : goal.repeated-returns-then-goes_on-clause-runs
repeated-returns-then-goes_on-clause-runs t c =
    let call = calls_of c.args.at.now.procedures c.args.at.now.turns c.args.depth in
    let N = c.args.at.now.turns in
    let e = exp_of c.args.test.now in
    let vs = c.loop-made.values in
    let now : bound c.args.vars.now c.as_slice-2.result.now c.loop-made.env ≡ bound c.args.vars.now vs c.args.env.now = λ i. bound c.args.vars.now (c.as_slice-2.ensures i) (c.loop-made.invariant.1 i) in
    let none : N - c.loop-made.made ≡ 0 = omega (arith, c.loop-made-test.false) in
    let path = late_path N call c.args.line c.args.vars.now (blk_of c.args.tree.now) c.args.env.now e (N - c.loop-made.made) vs none c.loop-made.invariant.0
    ∙ ap (λ w. behind (first_path (holds_runs c.args.line e w)) (λ b. cond b (Late c.args.line) (Gave vs))) (sym now) in
    next _ path c.in_ok-goes_on-2.ensures.runs ∙ ap (λ b. cond b (Late c.args.line) (Gave vs)) c.if-goes_on.true

pub repeated-returns-clause-runs : goal.repeated-returns-clause-runs
repeated-returns-clause-runs t c =
    let call = calls_of c.args.at.now.procedures c.args.at.now.turns c.args.depth in
    let N = c.args.at.now.turns in
    let e = exp_of c.args.test.now in
    let vs = c.loop-made.values in
    let now : bound c.args.vars.now c.as_slice-2.result.now c.loop-made.env ≡ bound c.args.vars.now vs c.args.env.now = λ i. bound c.args.vars.now (c.as_slice-2.ensures i) (c.loop-made.invariant.1 i) in
    let none : N - c.loop-made.made ≡ 0 = omega (arith, c.loop-made-test.false) in
    let path = late_path N call c.args.line c.args.vars.now (blk_of c.args.tree.now) c.args.env.now e (N - c.loop-made.made) vs none c.loop-made.invariant.0
    ∙ ap (λ w. behind (first_path (holds_runs c.args.line e w)) (λ b. cond b (Late c.args.line) (Gave vs))) (sym now) in
    next _ path c.in_ok-goes_on-2.ensures.runs ∙ ap (λ b. cond b (Late c.args.line) (Gave vs)) c.if-goes_on.false

pub repeated-returns-clause-scope : goal.repeated-returns-clause-scope
repeated-returns-clause-scope t c =
    let call = calls_of c.args.at.now.procedures c.args.at.now.turns c.args.depth in
    let N = c.args.at.now.turns in
    let e = exp_of c.args.test.now in
    let vs = c.loop-made.values in
    let now : bound c.args.vars.now c.as_slice-2.result.now c.loop-made.env ≡ bound c.args.vars.now vs c.args.env.now = λ i. bound c.args.vars.now (c.as_slice-2.ensures i) (c.loop-made.invariant.1 i) in
    left_env c.len-mark.ensures (same_later (c.in_ok-goes_on-2.ensures.scope ∙ now) (bound_later c.args.vars.now vs c.args.env.now)) c.leave-2.ensures

pub repeated-returns-then-not-goes_on-clause-scope : goal.repeated-returns-then-not-goes_on-clause-scope
repeated-returns-then-not-goes_on-clause-scope t c =
    let call = calls_of c.args.at.now.procedures c.args.at.now.turns c.args.depth in
    let N = c.args.at.now.turns in
    let e = exp_of c.args.test.now in
    let vs = c.loop-made.values in
    let now : bound c.args.vars.now c.as_slice.result.now c.loop-made.env ≡ bound c.args.vars.now vs c.args.env.now = λ i. bound c.args.vars.now (c.as_slice.ensures i) (c.loop-made.invariant.1 i) in
    left_env c.len-mark.ensures (same_later (c.in_ok-goes_on.ensures.scope ∙ now) (bound_later c.args.vars.now vs c.args.env.now)) c.leave.ensures

-- ---- steps

pub step-returns-in_err-values-in-Bind-clause-runs : goal.step-returns-in_err-values-in-Bind-clause-runs
step-returns-in_err-values-in-Bind-clause-runs t c = λ rest. halts _ _ _ _ _ (bind_path _ _ _ c.in-Bind.is refl rest) c.from_residual.ensures.1 c.in_err-values-in-Bind.ensures.runs

pub step-returns-in_err-bind_all-in-Bind-clause-runs : goal.step-returns-in_err-bind_all-in-Bind-clause-runs
step-returns-in_err-bind_all-in-Bind-clause-runs t c = λ rest. starved _ _ _ c.from_residual-in_err-bind_all-in-Bind.ensures.1

pub step-returns-in_ok-bind_all-in-Bind-clause-runs : goal.step-returns-in_ok-bind_all-in-Bind-clause-runs
step-returns-in_ok-bind_all-in-Bind-clause-runs t c = λ rest.
    let call = calls_of c.args.at.now.procedures c.args.at.now.turns c.args.depth in
    next _ (bind_path _ _ _ c.in-Bind.is refl rest) c.in_ok-values-in-Bind.ensures.runs
    ∙ ap (λ w. FirstSteps c.args.at.now.turns call w rest) (sym (c.in_ok-bind_all-in-Bind.ensures ∙ (λ i. bound (c.as_slice.ensures i) (c.as_slice-in-Bind.ensures i) (c.in_ok-values-in-Bind.ensures.scope i))))

pub step-returns-in_ok-bind_all-in-Bind-clause-scope : goal.step-returns-in_ok-bind_all-in-Bind-clause-scope
step-returns-in_ok-bind_all-in-Bind-clause-scope t c =
    same_later (c.in_ok-bind_all-in-Bind.ensures ∙ (λ i. bound (c.as_slice.result.now) (c.as_slice-in-Bind.result.now) (c.in_ok-values-in-Bind.ensures.scope i))) (bound_later c.as_slice.result.now c.as_slice-in-Bind.result.now c.args.env.now)

pub step-returns-in_err-holds-in-Assert-clause-runs : goal.step-returns-in_err-holds-in-Assert-clause-runs
step-returns-in_err-holds-in-Assert-clause-runs t c = λ rest. halts _ _ _ _ _ (assert_path _ _ _ c.in-Assert.is refl rest) c.from_residual-in_err-holds-in-Assert.ensures.1 c.in_err-holds-in-Assert.ensures

pub step-returns-then-branch-clause-runs : goal.step-returns-then-branch-clause-runs
step-returns-then-branch-clause-runs t c = λ rest.
    let call = calls_of c.args.at.now.procedures c.args.at.now.turns c.args.depth in
    next _ (assert_path _ _ _ c.in-Assert.is refl rest) c.in_ok-holds-in-Assert.ensures ∙ ap (λ b. cond b (FirstSteps c.args.at.now.turns call c.args.env.now rest) (Fell c.in-Assert.place.line)) c.if-branch.true

pub step-returns-else-branch-clause-runs : goal.step-returns-else-branch-clause-runs
step-returns-else-branch-clause-runs t c = λ rest.
    let call = calls_of c.args.at.now.procedures c.args.at.now.turns c.args.depth in
    next _ (assert_path _ _ _ c.in-Assert.is refl rest) c.in_ok-holds-in-Assert.ensures ∙ ap (λ b. cond b (FirstSteps c.args.at.now.turns call c.args.env.now rest) (Fell c.in-Assert.place.line)) c.if-branch.false
