use Rattle.std.proofs.Common.{refl, ap, ◌∙◌}
use Rattle.nres_core.specs.FlatTree.{binds_of}
use Rattle.nres_rules.specs.Flatten.{arg_of}
use Rattle.nres_core.specs.Mirror.{all_id_steps}
use Rattle.nres_flat.specs.Lookups.{number_in}
use Rattle.nres_flat.proofs.Blocks.{in_front, further, one_front, scoped_behind, left, begin, block_adds, block_alone, one_step, no_step, bind_ahead, assert_ahead, place_is}
use Rattle.nres_core.specs.declared.identified.IdBody.TheVariants as bodies
use Rattle.nres_flat.proofs.Bodies.{chosen, side_by_side, one_or_other, choice_in, first_in, divided_in}
use Rattle.nres_flat.proofs.Loops.{while_, named_block, divided, over_set}
use Rattle.nres_flat.proofs.Outcomes.{always_ok, if_all_ok, on_ok}
use Rattle.nres_flat.proofs.+block.Goals as goal

pub block::block-returns-in-Ok-clause-block : goal.block::block-returns-in-Ok-clause-block
block::block-returns-in-Ok-clause-block t c = block_alone (number_in c.args.procedures.now) c.args.tree.now c.args.scope.now c.new-binds.ensures c.in-Ok.ensures.parts

pub block::part-returns-clause-block : goal.block::part-returns-clause-block
block::part-returns-clause-block t c =
    named_block (number_in c.args.procedures.now) c.args.name.now.name c.args.tree.now c.args.scope.now c.in_ok-block.block
    c.in_ok-variable.ensures.number c.in_ok-variable.ensures.names c.in_ok-variable.ensures.scope c.in_ok-block.ensures.block

pub block::part-returns-clause-scope : goal.block::part-returns-clause-scope
block::part-returns-clause-scope t c = left (one_front (in_front c.args.scope.now) (c.in_ok-block.ensures.scope ∙ c.in_ok-variable.ensures.scope)) c.len-mark.ensures c.leave.ensures

pub block::results-returns-clause-parts : goal.block::results-returns-clause-parts
block::results-returns-clause-parts t c =
    block_adds (number_in c.args.procedures.now) c.args.tree.now c.args.scope.now c.as_slice.ensures c.as_slice-2.ensures c.in_ok-steps.ensures.ahead c.in_ok-results.ensures

pub block::results-returns-clause-scope : goal.block::results-returns-clause-scope
block::results-returns-clause-scope t c = left c.in_ok-steps.ensures.scope c.len-mark.ensures c.leave.ensures

pub block::step-returns-in_ok-args-in-Bind-clause-ahead :
    goal.block::step-returns-in_ok-args-in-Bind-clause-ahead
block::step-returns-in_ok-args-in-Bind-clause-ahead t c =
    on_ok c.bind_all.result
    (bind_ahead (number_in c.args.procedures.now) c.in-Bind.pattern c.in-Bind.place c.in-Bind.bound c.in-Bind.is c.as_slice-pattern.ensures c.in_ok-args-in-Bind.ensures.parts
    c.in_ok-args-in-Bind.ensures.scope c.as_slice.ensures)
    c.bind_all.ensures

pub block::step-returns-in_ok-args-in-Bind-clause-scope :
    goal.block::step-returns-in_ok-args-in-Bind-clause-scope
block::step-returns-in_ok-args-in-Bind-clause-scope t c =
    on_ok c.bind_all.result (scoped_behind c.as_slice-pattern.result.now c.as_slice.result.now c.in_ok-args-in-Bind.ensures.scope) c.bind_all.ensures

pub block::step-returns-in_ok-inner-in-Assert-clause-ahead :
    goal.block::step-returns-in_ok-inner-in-Assert-clause-ahead
block::step-returns-in_ok-inner-in-Assert-clause-ahead t c =
    on_ok c.push.result
    (assert_ahead (number_in c.args.procedures.now) c.in-Assert.place c.in-Assert.test c.args.scope.now c.args.binds.now c.push.new.self _ c.in-Assert.is refl c.in_ok-inner-in-Assert.ensures)
    c.push.ensures.ok

pub block::step-returns-in_ok-inner-in-Assert-clause-scope :
    goal.block::step-returns-in_ok-inner-in-Assert-clause-scope
block::step-returns-in_ok-inner-in-Assert-clause-scope t c = always_ok c.push.result (in_front c.args.scope.now)

pub block::steps-each-init : goal.block::steps-each-init
block::steps-each-init t c = (λ es. begin _ _ _, in_front c.args.scope.now)

pub block::steps-each-preserved : goal.block::steps-each-preserved
block::steps-each-preserved t c = (
  one_step (number_in c.args.procedures.now) c.args.trees.now c.each.tree-index (all_id_steps c.args.trees.now) c.args.scope.now c.each.scope c.step.new.scope c.each.invariant.0 c.each-test.true
      c.tree-item.is c.in_ok-step.ensures.ahead,
  further c.each.invariant.1 c.in_ok-step.ensures.scope,
)

pub block::steps-returns-clause-ahead : goal.block::steps-returns-clause-ahead
block::steps-returns-clause-ahead t c = no_step (number_in c.args.procedures.now) c.args.trees.now c.each.tree-index c.args.scope.now c.each.scope c.each.invariant.0 c.each-test.false

pub block::steps-returns-clause-scope : goal.block::steps-returns-clause-scope
block::steps-returns-clause-scope t c = c.each.invariant.1

pub body::body-returns-in-Value-clause-parts : goal.body::body-returns-in-Value-clause-parts
body::body-returns-in-Value-clause-parts t c = rw c.in-Value.is (c.value.ensures (number_in c.args.procedures.now))

pub body::body-returns-in-Take-clause-parts : goal.body::body-returns-in-Take-clause-parts
body::body-returns-in-Take-clause-parts t c = rw c.in-Take.is (c.take.ensures (number_in c.args.procedures.now))

pub body::body-returns-in-Any-clause-parts : goal.body::body-returns-in-Any-clause-parts
body::body-returns-in-Any-clause-parts t c = rw c.in-Any.is (c.any.ensures (number_in c.args.procedures.now))

pub body::body-returns-in_ok-yes-in-If-clause-parts :
    goal.body::body-returns-in_ok-yes-in-If-clause-parts
body::body-returns-in_ok-yes-in-If-clause-parts t c =
    rw c.in-If.is (choice_in (number_in c.args.procedures.now) c.in-If.test c.in-If.yes (bodies.If c.in-If.place c.in-If.test c.in-If.yes c.in-If.no) c.args.pattern.now
    (binds_of c.choice.new.binds) c.choice.new.names c.choice.result c.in_ok-yes-in-If.ensures.scope
    (c.choice.ensures.parts c.in-If.test c.in-If.yes (binds_of c.args.binds.now) c.args.names.now)
    (record { tested = c.expr.new.names; test = c.in_ok-test-in-If.ensures; first = c.in_ok-yes-in-If.ensures.block }))

pub body::body-returns-in_ok-left-in-Par-clause-parts :
    goal.body::body-returns-in_ok-left-in-Par-clause-parts
body::body-returns-in_ok-left-in-Par-clause-parts t c =
    rw c.in-Par.is (first_in (number_in c.args.procedures.now) c.in-Par.left (bodies.Par c.in-Par.place c.in-Par.left c.in-Par.right) c.args.pattern.now
    (binds_of c.args.binds.now) (binds_of c.beside.new.binds) c.args.names.now c.beside.new.names c.beside.result c.in_ok-left-in-Par.left _ c.in_ok-left-in-Par.ensures.scope
    (c.beside.ensures.parts c.in-Par.left c.args.names.now) c.in_ok-left-in-Par.ensures.block)

pub body::body-returns-in_ok-left-in-Either-clause-parts :
    goal.body::body-returns-in_ok-left-in-Either-clause-parts
body::body-returns-in_ok-left-in-Either-clause-parts t c =
    rw c.in-Either.is (first_in (number_in c.args.procedures.now) c.in-Either.left (bodies.Either c.in-Either.place c.in-Either.left c.in-Either.right) c.args.pattern.now
    (binds_of c.args.binds.now) (binds_of c.other.new.binds) c.args.names.now c.other.new.names c.other.result c.in_ok-left-in-Either.left _ c.in_ok-left-in-Either.ensures.scope
    (c.other.ensures.parts c.in-Either.left c.args.names.now) c.in_ok-left-in-Either.ensures.block)

pub body::body-returns-in_ok-left-in-Split-clause-parts :
    goal.body::body-returns-in_ok-left-in-Split-clause-parts
body::body-returns-in_ok-left-in-Split-clause-parts t c =
    rw c.in-Split.is (divided_in (number_in c.args.procedures.now) c.in-Split.list c.in-Split.at c.in-Split.left_name c.in-Split.left
    (bodies.Split c.in-Split.place c.in-Split.list c.in-Split.at c.in-Split.left_name c.in-Split.left c.in-Split.right_name c.in-Split.right) c.args.pattern.now
    (binds_of c.other_part.new.binds) c.other_part.new.names c.other_part.result c.in_ok-left-in-Split.ensures.scope
    (c.other_part.ensures.parts c.in-Split.list c.in-Split.left_name c.in-Split.at c.in-Split.left (binds_of c.args.binds.now) c.args.names.now)
    (record {
      tested = c.expr-in-Split.new.names;
      divided = c.arg_at-list.ensures ∙ ap (λ y. arg_of c.args.scope.now y) c.bytes.ensures;
      number_at = c.in_ok-at-in-Split.ensures;
      first = c.in_ok-left-in-Split.ensures.block;
    }))

pub body::body-returns-in-Value-clause-scope : goal.body::body-returns-in-Value-clause-scope
body::body-returns-in-Value-clause-scope t c = always_ok c.value.result refl

pub body::body-returns-in-Take-clause-scope : goal.body::body-returns-in-Take-clause-scope
body::body-returns-in-Take-clause-scope t c = always_ok c.take.result refl

pub body::body-returns-in-Any-clause-scope : goal.body::body-returns-in-Any-clause-scope
body::body-returns-in-Any-clause-scope t c = always_ok c.any.result refl

pub body::body-returns-in-Call-clause-parts : goal.body::body-returns-in-Call-clause-parts
body::body-returns-in-Call-clause-parts t c = rw c.in-Call.is (rw c.as_slice-args.ensures at c.call.ensures)

pub body::body-returns-in-While-clause-parts : goal.body::body-returns-in-While-clause-parts
body::body-returns-in-While-clause-parts t c = rw c.in-While.is (rw (c.as_slice-vars.ensures, c.as_slice-starts.ensures) at c.turns.ensures.parts)

pub body::body-returns-in-Foreach-clause-parts : goal.body::body-returns-in-Foreach-clause-parts
body::body-returns-in-Foreach-clause-parts t c = rw c.in-Foreach.is (rw (c.as_slice-vars-in-Foreach.ensures, c.as_slice-starts-in-Foreach.ensures) at c.each.ensures.parts)

pub body::body-returns-in-Call-clause-scope : goal.body::body-returns-in-Call-clause-scope
body::body-returns-in-Call-clause-scope t c = always_ok c.call.result refl

-- ---- two blocks

pub body::choice-returns-in-Ok-clause-parts : goal.body::choice-returns-in-Ok-clause-parts
body::choice-returns-in-Ok-clause-parts t c e bl x l h =
    if_all_ok c.end_if.result
    (λ us v b o. chosen (number_in c.args.procedures.now) c.args.place e bl c.args.tree.now c.args.pattern.now c.args.scope.now c.args.binds.now c.end_if.new.binds _ c.args.yes c.in-Ok.no
    refl h.test h.first refl c.in-Ok.ensures.block refl refl v o b)
    c.end_if.ensures.results c.end_if.ensures.binds c.end_if.ensures.names

pub body::beside-returns-in-Ok-clause-parts : goal.body::beside-returns-in-Ok-clause-parts
body::beside-returns-in-Ok-clause-parts t c bl l h =
    if_all_ok c.end_par.result
    (λ us v b o. side_by_side (number_in c.args.procedures.now) c.args.place bl c.args.tree.now c.args.pattern.now c.args.scope.now c.args.binds.now c.end_par.new.binds _ c.args.left c.in-Ok.right
    refl h c.in-Ok.ensures.block refl refl v o b)
    c.end_par.ensures.results c.end_par.ensures.binds c.end_par.ensures.names

pub body::other-returns-in-Ok-clause-parts : goal.body::other-returns-in-Ok-clause-parts
body::other-returns-in-Ok-clause-parts t c bl l h =
    if_all_ok c.end_either.result
    (λ us v b o. one_or_other (number_in c.args.procedures.now) c.args.place bl c.args.tree.now c.args.pattern.now c.args.scope.now c.args.binds.now c.end_either.new.binds _ c.args.left c.in-Ok.right
    refl h c.in-Ok.ensures.block refl refl v o b)
    c.end_either.ensures.results c.end_either.ensures.binds c.end_either.ensures.names

pub body::other_part-returns-in-Ok-clause-parts : goal.body::other_part-returns-in-Ok-clause-parts
body::other_part-returns-in-Ok-clause-parts t c list first e bl x l h =
    if_all_ok c.end_split.result
    (λ us v b o. divided (number_in c.args.procedures.now) c.args.cut.place list first c.args.name.now e bl c.args.tree.now c.args.pattern.now c.args.scope.now c.args.left c.in-Ok.right
    refl h.divided h.number_at h.first refl c.in-Ok.ensures.block refl v o b)
    c.end_split.ensures.results c.end_split.ensures.binds c.end_split.ensures.names

-- ---- loops

pub body::turns-returns-in-Ok-clause-parts : goal.body::turns-returns-in-Ok-clause-parts
body::turns-returns-in-Ok-clause-parts t c =
    if_all_ok c.end_loop.result
    (λ us v b o. while_ (number_in c.args.procedures.now) c.args.place c.args.vars_place c.args.vars.now c.args.vars.now c.args.starts.now c.args.starts.now c.args.test.now c.args.tree.now
    c.args.pattern.now c.args.scope.now c.begin_loop.new.binds c.end_loop.new.binds c.in-Ok.body c.in_ok-head.head
    refl refl refl c.in_ok-head.ensures.head c.in_ok-head.ensures.scope c.in-Ok.ensures.block v b o)
    c.end_loop.ensures.results c.end_loop.ensures.binds c.end_loop.ensures.names

pub body::turns-returns-in-Ok-clause-scope : goal.body::turns-returns-in-Ok-clause-scope
body::turns-returns-in-Ok-clause-scope t c =
    always_ok c.end_loop.result
    (left (scoped_behind c.args.vars.now _ refl (c.in-Ok.ensures.scope ∙ c.in_ok-head.ensures.scope)) c.len-mark.ensures c.leave.ensures)

pub body::each-returns-in-Ok-clause-parts : goal.body::each-returns-in-Ok-clause-parts
body::each-returns-in-Ok-clause-parts t c =
    if_all_ok c.end_each.result
    (λ us v b o. over_set (number_in c.args.procedures.now) c.args.place c.args.vars_place _ c.args.var.now c.args.over.now c.args.vars.now c.args.vars.now
    c.args.starts.now c.args.starts.now c.args.tree.now c.args.pattern.now c.args.scope.now c.in_ok-head.head c.begin_each.new.binds c.end_each.new.binds
    c.in_ok-turn.turn c.results.new.binds refl refl refl
    (c.arg_at-over.ensures ∙ ap (λ y. arg_of c.args.scope.now y) c.bytes.ensures) c.in_ok-head.ensures.head c.in_ok-head.ensures.scope c.in_ok-turn.ensures
    c.in-Ok.ensures.parts (place_is c.args.tree.now) v b o)
    c.end_each.ensures.results c.end_each.ensures.binds c.end_each.ensures.names

pub body::each-returns-in-Ok-clause-scope : goal.body::each-returns-in-Ok-clause-scope
body::each-returns-in-Ok-clause-scope t c =
    always_ok c.end_each.result
    (left (further (one_front (in_front c.args.scope.now) refl) (scoped_behind c.args.vars.now _ refl (c.in-Ok.ensures.scope ∙ c.in_ok-head.ensures.scope)))
    c.len-mark.ensures c.leave.ensures)
