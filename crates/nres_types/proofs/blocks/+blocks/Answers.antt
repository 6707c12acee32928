use Rattle.std.proofs.Common.{◌≡◌, ◌∙◌, ◌∷◌, length, arith, Some}
use Rattle.nres_core.specs.Mirror.{exp_of, all_exps, all_steps, blk_of, bod_of}
use Rattle.nres_rules.specs.Types.{blk_type, bod_type, steps_type, with_types}
use Rattle.nres_core.specs.declared.ty.Ty.TheVariants as ty
use Rattle.nres_types.specs.Bodies.{gives_of}
use Rattle.nres_types.specs.Findings.{told_of, wrongs}
use Rattle.nres_types.proofs.Arms.{other_side_done, beside_done, half_done, other_half_done, if_done, either_done, par_done, split_done, turns_done, each_done, value_arm, take_arm, any_arm, call_arm, while_arm, foreach_arm}
use Rattle.nres_types.proofs.Walks.{left, under_one, under_with, under_trans, under_same, steps_first, steps_more, block_done, assert_done, bind_arm, bind_done, bind_has_places}
use Rattle.nres_types.proofs.blocks.+blocks.Goals as goal

-- ---- blocks and steps

pub block-loop-step-init : goal.block-loop-step-init
block-loop-step-init t c = record {
  items = c.as_slice-step-items.ensures;
  rest = steps_first (told_of c.args.findings.now) c.args.scope.now c.args.profiles.now c.args.tree.now.steps c.as_slice-step-items.result.now c.args.tree.now.place (all_exps c.args.tree.now.results) c.as_slice-step-items.ensures;
}

pub block-loop-step-preserved : goal.block-loop-step-preserved
block-loop-step-preserved t c = record {
  items = c.loop-step.invariant.items;
  rest = steps_more (told_of c.args.findings.now) (told_of c.loop-step.findings) (told_of c.one_step.new.findings) c.args.scope.now c.loop-step.scope c.one_step.new.scope c.args.profiles.now
      (steps_type c.args.profiles.now (all_steps c.args.tree.now.steps) c.args.tree.now.place (all_exps c.args.tree.now.results) c.args.scope.now)
      c.as_slice-step-items.result.now c.loop-step.step-index c.step-item.result c.args.tree.now.place (all_exps c.args.tree.now.results) c.loop-step-test.true c.step-item.is c.loop-step.invariant.rest c.in_ok-one_step.ensures;
}

pub block-returns-clause-typed : goal.block-returns-clause-typed
block-returns-clause-typed t c =
    block_done (told_of c.args.findings.now) (told_of c.loop-step.findings) (told_of c.exprs.new.findings) c.args.scope.now c.loop-step.scope c.args.profiles.now c.args.tree.now c.as_slice-step-items.result.now c.loop-step.step-index
    c.in_ok-heads.heads.items c.as_slice.result.now c.loop-step-test.false c.loop-step.invariant.rest c.as_slice.ensures c.in_ok-heads.ensures

pub block-returns-clause-scope : goal.block-returns-clause-scope
block-returns-clause-scope t c = left c.args.scope.now c.loop-step.scope c.leave.new.self c.len-mark.result c.loop-step.invariant.rest.under c.len-mark.ensures c.leave.ensures

pub one_step-returns-in-Assert : goal.one_step-returns-in-Assert
one_step-returns-in-Assert t c = assert_done c.operand.result c.args.profiles.now c.args.tree.now c.in-Assert.place c.in-Assert.test (told_of c.args.findings.now) (told_of c.operand.new.findings) c.args.scope.now c.in-Assert.is c.operand.ensures

pub bind-set_binders-requires : goal.bind-set_binders-requires
bind-set_binders-requires t c =
    let at : c.len-at.result ≡ length (told_of c.args.findings.now).binders = omega (arith, c.args.findings.now.binders.ok) in
    bind_has_places (told_of c.args.findings.now) (told_of c.add_binders.new.self) (told_of c.one_body.new.findings) (told_of c.note.new.self) (told_of c.note-2.new.self) c.args.names.now
    (bod_type c.args.profiles.now (bod_of c.args.body.now) c.args.scope.now) (gives_of c.in_ok-gives.gives) (wrongs c.in_ok-twice.field-0) (wrongs c.pattern_counts.result) c.len-at.result
    c.in_ok-add_binders.ensures c.in_ok-gives.ensures.typed c.note.ensures c.note-2.ensures at

pub bind-returns : goal.bind-returns
bind-returns t c =
    let at : c.len-at.result ≡ length (told_of c.args.findings.now).binders = omega (arith, c.args.findings.now.binders.ok) in
    bind_done c.bind_all.result c.args.profiles.now c.args.names.now c.args.place (bod_of c.args.body.now) (told_of c.args.findings.now) (told_of c.add_binders.new.self) (told_of c.one_body.new.findings) (told_of c.note.new.self) (told_of c.note-2.new.self) (told_of c.set_binders.new.self)
    c.args.scope.now c.one_body.new.scope c.bind_all.new.scope (gives_of c.in_ok-gives.gives) c.types.result.now c.types-2.result.now (wrongs c.in_ok-twice.field-0) (wrongs c.pattern_counts.result) c.len-at.result
    c.in_ok-add_binders.ensures c.in_ok-gives.ensures.typed c.in_ok-gives.ensures.scope c.in_ok-twice.ensures c.note.ensures c.pattern_counts.ensures c.note-2.ensures at c.types.ensures c.set_binders.ensures c.types-2.ensures c.bind_all.ensures

-- ---- two blocks

pub other_side-returns-clause-typed : goal.other_side-returns-clause-typed
other_side-returns-clause-typed t c =
    other_side_done (told_of c.args.findings.now) (told_of c.block.new.findings) (told_of c.fit_results.new.findings) c.args.first.heads.items c.in_ok-second.second.heads.items c.as_slice.result.now c.in_ok-second.second.place c.in_ok-types.types.items c.as_slice-2.result.now
    (blk_type c.args.profiles.now (blk_of c.args.tree.now) c.args.scope.now) c.in_ok-second.ensures.typed c.in_ok-types.ensures c.as_slice.ensures.value c.as_slice-2.ensures.value c.fit_results.ensures

pub beside-returns-clause-typed : goal.beside-returns-clause-typed
beside-returns-clause-typed t c =
    beside_done (told_of c.args.findings.now) (told_of c.block.new.findings) c.args.first.heads.items c.in_ok-second.second.heads.items c.as_slice.result.now c.as_slice-2.result.now c.in_ok-second.second.place c.in_ok-types.types.items c.add_types.new.types.items
    (blk_type c.args.profiles.now (blk_of c.args.tree.now) c.args.scope.now) c.in_ok-second.ensures.typed c.in_ok-types.ensures c.as_slice.ensures.value c.in_ok-add_types.ensures c.as_slice-2.ensures.value

pub half-returns-clause-typed : goal.half-returns-clause-typed
half-returns-clause-typed t c =
    half_done (told_of c.args.findings.now) (told_of c.add_binder.new.self) (told_of c.block.new.findings) (told_of c.fit_list.new.findings) c.args.profiles.now (blk_of c.args.tree.now) c.args.scope.now c.bind.new.self c.args.name.now c.bytes.result.now
    c.in_ok-results.results.heads.items c.in_ok-results.results.place c.in_ok-add_binder.ensures c.in_ok-bind.ensures c.bytes.ensures c.in_ok-results.ensures.typed c.fit_list.ensures

pub half-returns-clause-scope : goal.half-returns-clause-scope
half-returns-clause-scope t c =
    left c.args.scope.now c.block.new.scope c.leave.new.self c.len-mark.result
    (under_same c.args.scope.now ((c.bytes.result.now, Some ty.List) ∷ c.args.scope.now) c.block.new.scope (under_one c.args.scope.now (c.bytes.result.now, Some ty.List)) (c.in_ok-results.ensures.scope ∙ c.in_ok-bind.ensures))
    c.len-mark.ensures c.leave.ensures

pub other_half-returns-clause-typed : goal.other_half-returns-clause-typed
other_half-returns-clause-typed t c =
    other_half_done (told_of c.args.findings.now) (told_of c.half.new.findings) c.args.first.heads.items c.in_ok-second.second.heads.items c.as_slice.result.now c.as_slice-2.result.now c.in_ok-types.types.items c.add_types.new.types.items c.add_types-2.new.types.items
    (blk_type c.args.profiles.now (blk_of c.args.tree.now) ((c.args.name.now.name, Some ty.List) ∷ c.args.scope.now)) c.in_ok-second.ensures.typed c.in_ok-types.ensures.items c.in_ok-add_types.ensures c.as_slice.ensures.value c.in_ok-add_types-2.ensures c.as_slice-2.ensures.value

-- ---- loops

pub turns-returns-clause-typed : goal.turns-returns-clause-typed
turns-returns-clause-typed t c =
    turns_done (told_of c.args.findings.now) (told_of c.exprs.new.findings) (told_of c.add_binders.new.self) (told_of c.operand.new.findings) (told_of c.block.new.findings) (told_of c.fit_turns.new.findings) c.args.profiles.now c.args.scope.now c.bind_all.new.scope
    c.args.vars.now c.args.vars_place (all_exps c.args.starts.now) (exp_of c.args.test.now) (blk_of c.args.body.now) c.in_ok-heads.heads.items c.as_slice.result.now c.in_ok-results.results.heads.items
    c.in_ok-types.types.items c.as_slice-2.result.now c.as_slice-3.result.now c.as_slice-4.result.now c.in_ok-results.results.place
    c.in_ok-heads.ensures c.in_ok-types.ensures c.as_slice.ensures.value c.as_slice-2.ensures.value c.in_ok-add_binders.ensures c.as_slice-3.ensures.value c.in_ok-bind_all.ensures c.in_ok-operand.ensures c.in_ok-results.ensures.typed c.as_slice-4.ensures.value c.in_ok-fit_turns.ensures

pub turns-returns-clause-scope : goal.turns-returns-clause-scope
turns-returns-clause-scope t c =
    left c.args.scope.now c.block.new.scope c.leave.new.self c.len-mark.result
    (under_same c.args.scope.now (with_types c.args.vars.now c.as_slice-3.result.now c.args.scope.now) c.block.new.scope (under_with c.args.vars.now c.as_slice-3.result.now c.args.scope.now) (c.in_ok-results.ensures.scope ∙ c.in_ok-bind_all.ensures))
    c.len-mark.ensures c.leave.ensures

pub each-returns-clause-typed : goal.each-returns-clause-typed
each-returns-clause-typed t c =
    each_done (told_of c.args.findings.now) (told_of c.note.new.self) (told_of c.exprs.new.findings) (told_of c.add_binder.new.self) (told_of c.add_binders.new.self) (told_of c.block.new.findings) (told_of c.fit_turns.new.findings) c.args.profiles.now c.args.scope.now c.bind.new.self c.bind_all.new.scope
    c.args.var.now c.args.over.now c.args.vars.now c.args.vars_place (all_exps c.args.starts.now) (blk_of c.args.body.now) c.in_ok-heads.heads.items c.as_slice.result.now c.in_ok-results.results.heads.items
    c.in_ok-types.types.items c.as_slice-2.result.now c.as_slice-3.result.now c.as_slice-4.result.now c.in_ok-results.results.place (wrongs c.name_wants.result) c.bytes.result.now
    c.name_wants.ensures c.note.ensures c.in_ok-heads.ensures c.in_ok-types.ensures c.as_slice.ensures.value c.in_ok-add_binder.ensures c.as_slice-2.ensures.value c.in_ok-add_binders.ensures c.in_ok-bind.ensures c.bytes.ensures c.as_slice-3.ensures.value c.in_ok-bind_all.ensures
    c.in_ok-results.ensures.typed c.as_slice-4.ensures.value c.in_ok-fit_turns.ensures

pub each-returns-clause-scope : goal.each-returns-clause-scope
each-returns-clause-scope t c =
    left c.args.scope.now c.block.new.scope c.leave.new.self c.len-mark.result
    (under_same c.args.scope.now (with_types c.args.vars.now c.as_slice-3.result.now c.bind.new.self) c.block.new.scope
    (under_trans c.args.scope.now c.bind.new.self (with_types c.args.vars.now c.as_slice-3.result.now c.bind.new.self) (under_same c.args.scope.now ((c.bytes.result.now, Some ty.Nat) ∷ c.args.scope.now) c.bind.new.self (under_one c.args.scope.now (c.bytes.result.now, Some ty.Nat)) c.in_ok-bind.ensures) (under_with c.args.vars.now c.as_slice-3.result.now c.bind.new.self))
    (c.in_ok-results.ensures.scope ∙ c.in_ok-bind_all.ensures))
    c.len-mark.ensures c.leave.ensures

-- ---- bodies

pub one_body-returns-in_ok-first-in-If-clause-typed : goal.one_body-returns-in_ok-first-in-If-clause-typed
one_body-returns-in_ok-first-in-If-clause-typed t c =
    if_done c.other_side.result (told_of c.args.findings.now) (told_of c.operand.new.findings) (told_of c.block.new.findings) (told_of c.other_side.new.findings) c.args.profiles.now c.args.scope.now c.block.new.scope c.args.tree.now c.in-If.place c.in_ok-first-in-If.first.place c.in-If.test c.in-If.yes c.in-If.no c.in_ok-first-in-If.first.heads.items
    c.in-If.is c.in_ok-operand-in-If.ensures c.in_ok-first-in-If.ensures.typed c.in_ok-first-in-If.ensures.scope c.other_side.ensures.typed

pub one_body-returns-in_ok-first-in-Par-clause-typed : goal.one_body-returns-in_ok-first-in-Par-clause-typed
one_body-returns-in_ok-first-in-Par-clause-typed t c =
    par_done c.beside.result (told_of c.args.findings.now) (told_of c.block-in-Par.new.findings) (told_of c.beside.new.findings) c.args.profiles.now c.args.scope.now c.block-in-Par.new.scope c.args.tree.now c.in-Par.place c.in_ok-first-in-Par.first.place c.in-Par.left c.in-Par.right c.in_ok-first-in-Par.first.heads.items
    c.in-Par.is c.in_ok-first-in-Par.ensures.typed c.in_ok-first-in-Par.ensures.scope c.beside.ensures.typed

pub one_body-returns-in_ok-first-in-Split-clause-typed : goal.one_body-returns-in_ok-first-in-Split-clause-typed
one_body-returns-in_ok-first-in-Split-clause-typed t c =
    split_done c.other_half.result (told_of c.args.findings.now) (told_of c.note.new.self) (told_of c.operand-in-Split.new.findings) (told_of c.half.new.findings) (told_of c.other_half.new.findings) c.args.profiles.now c.args.scope.now c.half.new.scope c.args.tree.now
    c.in-Split.place c.in-Split.list c.in-Split.at c.in-Split.left_name c.in-Split.left c.in-Split.right_name c.in-Split.right c.in_ok-first-in-Split.first.heads.items (wrongs c.name_wants.result)
    c.in-Split.is c.name_wants.ensures c.note.ensures c.in_ok-operand-in-Split.ensures c.in_ok-first-in-Split.ensures.typed c.in_ok-first-in-Split.ensures.scope c.other_half.ensures.typed

pub one_body-returns-in_ok-first-in-Either-clause-typed : goal.one_body-returns-in_ok-first-in-Either-clause-typed
one_body-returns-in_ok-first-in-Either-clause-typed t c =
    either_done c.other_side-in-Either.result (told_of c.args.findings.now) (told_of c.block-in-Either.new.findings) (told_of c.other_side-in-Either.new.findings) c.args.profiles.now c.args.scope.now c.block-in-Either.new.scope c.args.tree.now c.in-Either.place c.in_ok-first-in-Either.first.place c.in-Either.left c.in-Either.right c.in_ok-first-in-Either.first.heads.items
    c.in-Either.is c.in_ok-first-in-Either.ensures.typed c.in_ok-first-in-Either.ensures.scope c.other_side-in-Either.ensures.typed

pub one_body-returns-in-Value-clause-typed : goal.one_body-returns-in-Value-clause-typed
one_body-returns-in-Value-clause-typed t c =
    value_arm c.value.result (told_of c.args.findings.now) (told_of c.value.new.findings) c.args.profiles.now c.args.tree.now c.args.scope.now
    c.in-Value.tree c.in-Value.is c.value.ensures

pub one_body-returns-in-Take-clause-typed : goal.one_body-returns-in-Take-clause-typed
one_body-returns-in-Take-clause-typed t c =
    take_arm c.take.result (told_of c.args.findings.now) (told_of c.take.new.findings) c.args.profiles.now c.args.tree.now c.args.scope.now
    c.in-Take.place c.in-Take.word c.in-Take.arg c.in-Take.is c.take.ensures

pub one_body-returns-in-Any-clause-typed : goal.one_body-returns-in-Any-clause-typed
one_body-returns-in-Any-clause-typed t c =
    any_arm c.any.result (told_of c.args.findings.now) (told_of c.any.new.findings) c.args.profiles.now c.args.tree.now c.args.scope.now
    c.in-Any.place c.in-Any.low c.in-Any.high c.in-Any.is c.any.ensures

pub one_body-returns-in-While-clause-typed : goal.one_body-returns-in-While-clause-typed
one_body-returns-in-While-clause-typed t c =
    while_arm c.turns.result (told_of c.args.findings.now) (told_of c.turns.new.findings) c.args.profiles.now c.args.tree.now c.args.scope.now
    c.in-While.place c.in-While.vars c.as_slice-vars.result.now c.in-While.vars_place c.in-While.starts c.as_slice.result.now c.in-While.test c.in-While.body c.in-While.is c.as_slice-vars.ensures c.as_slice.ensures c.turns.ensures.typed

pub one_body-returns-in-Foreach-clause-typed : goal.one_body-returns-in-Foreach-clause-typed
one_body-returns-in-Foreach-clause-typed t c =
    foreach_arm c.each.result (told_of c.args.findings.now) (told_of c.each.new.findings) c.args.profiles.now c.args.tree.now c.args.scope.now
    c.in-Foreach.place c.in-Foreach.var c.in-Foreach.over c.in-Foreach.vars c.as_slice-vars-in-Foreach.result.now c.in-Foreach.vars_place c.in-Foreach.starts c.as_slice-in-Foreach.result.now c.in-Foreach.body c.in-Foreach.is c.as_slice-vars-in-Foreach.ensures c.as_slice-in-Foreach.ensures c.each.ensures.typed

pub one_body-returns-in-Call-clause-typed : goal.one_body-returns-in-Call-clause-typed
one_body-returns-in-Call-clause-typed t c =
    call_arm c.call.result (told_of c.args.findings.now) (told_of c.call.new.findings) c.args.profiles.now c.args.tree.now c.args.scope.now
    c.in-Call.place c.in-Call.fun c.in-Call.args c.as_slice-in-Call.result.now c.in-Call.is c.as_slice-in-Call.ensures c.call.ensures

pub one_step-returns-in-Bind : goal.one_step-returns-in-Bind
one_step-returns-in-Bind t c = bind_arm c.bind.result c.args.profiles.now c.args.tree.now c.in-Bind.names c.as_slice.result.now c.in-Bind.place c.in-Bind.body (told_of c.args.findings.now) (told_of c.bind.new.findings) c.args.scope.now c.bind.new.scope c.in-Bind.is c.as_slice.ensures c.bind.ensures
