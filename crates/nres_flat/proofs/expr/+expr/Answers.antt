use Rattle.std.proofs.Common.{length, refl, ap, ◌∙◌}
use Rattle.nres_core.specs.FlatTree.{binds_of}
use Rattle.nres_rules.specs.Flatten.{flat_exp, flat_exps, arg_of}
use Rattle.nres_core.specs.Mirror.{id_exp_of, all_id_exps}
use Rattle.nres_core.specs.Tree as trees
use Rattle.nres_core.proofs.Mirrored.{id_mirrored}
use Rattle.nres_flat.specs.Adding.{named}
use Rattle.nres_flat.proofs.Adding.{formed, leaf, binary_ok, negated_ok, operated, one_less, all_added, given}
use Rattle.nres_flat.proofs.expr.+expr.Goals as goal

pub expr-returns-in-Num : goal.expr-returns-in-Num
expr-returns-in-Num t c =
    let z = trees.Num c.in-Num.place c.in-Num.value in
    let s = c.args.scope.now in
    let x = named c.args.name in
    let k = length c.args.names.now in
    formed c.args.tree.now z s x k (ap id_exp_of c.in-Num.is ∙ id_mirrored.num c.in-Num.place c.in-Num.value) (leaf (flat_exp z s x k) (binds_of c.args.binds.now) c.args.names.now refl refl refl refl)

pub expr-returns-in-Truth : goal.expr-returns-in-Truth
expr-returns-in-Truth t c =
    let z = trees.Truth c.in-Truth.place c.in-Truth.value in
    let s = c.args.scope.now in
    let x = named c.args.name in
    let k = length c.args.names.now in
    formed c.args.tree.now z s x k (ap id_exp_of c.in-Truth.is ∙ id_mirrored.truth c.in-Truth.place c.in-Truth.value) (leaf (flat_exp z s x k) (binds_of c.args.binds.now) c.args.names.now refl refl refl refl)

pub expr-returns-in-Var : goal.expr-returns-in-Var
expr-returns-in-Var t c =
    let z = trees.Var c.in-Var.used in
    let s = c.args.scope.now in
    let x = named c.args.name in
    let k = length c.args.names.now in
    formed c.args.tree.now z s x k (ap id_exp_of c.in-Var.is ∙ id_mirrored.var c.in-Var.used)
    (leaf (flat_exp z s x k) (binds_of c.args.binds.now) c.args.names.now (c.arg_at.ensures ∙ ap (λ y. arg_of s y) c.bytes.ensures) refl refl refl)

pub expr-returns-in_ok-right-in-Binary : goal.expr-returns-in_ok-right-in-Binary
expr-returns-in_ok-right-in-Binary t c =
    let s = c.args.scope.now in
    let l = given c.in-Binary.left s _ _ c.get.ensures c.in_ok-left-in-Binary.ensures in
    let r = given c.in-Binary.right s _ _ c.get-in-Binary.ensures c.in_ok-right-in-Binary.ensures in
    binary_ok c.in-Binary.place c.in-Binary.word (named c.args.name) s c.in-Binary.left c.in-Binary.right c.args.tree.now (binds_of c.calculate.new.binds) c.calculate.new.names c.in-Binary.is l r c.calculate.result c.calculate.ensures

pub expr-returns-in_ok-arg-in-Not : goal.expr-returns-in_ok-arg-in-Not
expr-returns-in_ok-arg-in-Not t c =
    let s = c.args.scope.now in
    let l = given c.in-Not.arg s _ _ c.get-in-Not.ensures c.in_ok-arg-in-Not.ensures in
    negated_ok c.in-Not.place (named c.args.name) s c.in-Not.arg c.args.tree.now (binds_of c.calculate-in-Not.new.binds) c.calculate-in-Not.new.names c.in-Not.is l c.calculate-in-Not.result c.calculate-in-Not.ensures

pub expr-returns-in_ok-args-in-Apply : goal.expr-returns-in_ok-args-in-Apply
expr-returns-in_ok-args-in-Apply t c =
    operated c.in-Apply.place c.in-Apply.word c.in-Apply.args c.as_slice.result.now c.in-Apply.made (named c.args.name) c.args.scope.now c.args.tree.now
    (binds_of c.args.binds.now) (binds_of c.apply.new.binds) c.args.names.now c.apply.new.names c.in-Apply.is c.as_slice.ensures c.rep_of-made.ensures c.apply.result
    (c.apply.ensures (flat_exps (all_id_exps c.as_slice.result.now) c.args.scope.now (length c.args.names.now)) (binds_of c.args.binds.now) c.args.names.now c.in_ok-args-in-Apply.ensures)

pub exprs-each-preserved : goal.exprs-each-preserved
exprs-each-preserved t c = one_less c.args.trees.now c.args.scope.now c.each.tree-index c.each.invariant c.each-test.true c.tree-item.is c.in_ok-expr.ensures c.in_ok-push.ensures.ok

pub exprs-returns : goal.exprs-returns
exprs-returns t c = all_added c.args.trees.now c.args.scope.now c.each.tree-index c.each.invariant c.each-test.false
