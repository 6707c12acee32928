use Rattle.std.proofs.Common.{◌+◌, drop, refl, ap, ◌∙◌, sym}
use Rattle.nres_core.specs.Runs.{Gave}
use Rattle.nres_eval.specs.Ends.{onto}
use Rattle.nres_eval.proofs.Exprs.{Firsts, binary_path, not_path, apply_path, apply_rest, more_path}
use Rattle.nres_eval.proofs.Paths.{stop, next, told}
use Rattle.nres_eval.proofs.expr.+expr.Goals as goal

pub expr-returns-in_err-left-in-Binary : goal.expr-returns-in_err-left-in-Binary
expr-returns-in_err-left-in-Binary t c = stop _ _ _ _ (binary_path _ _ c.in-Binary.is c.get.ensures refl) c.from_residual-in_err-left-in-Binary.ensures.1 c.in_err-left-in-Binary.ensures

pub expr-returns-in_err-right-in-Binary : goal.expr-returns-in_err-right-in-Binary
expr-returns-in_err-right-in-Binary t c = stop _ _ _ _ (next _ (binary_path _ _ c.in-Binary.is c.get.ensures c.get-in-Binary.ensures) c.in_ok-left-in-Binary.ensures) c.from_residual-in_err-right-in-Binary.ensures.1 c.in_err-right-in-Binary.ensures

pub expr-returns-in_ok-right-in-Binary : goal.expr-returns-in_ok-right-in-Binary
expr-returns-in_ok-right-in-Binary t c = told _ (next _ (next _ (binary_path _ _ c.in-Binary.is c.get.ensures c.get-in-Binary.ensures) c.in_ok-left-in-Binary.ensures) c.in_ok-right-in-Binary.ensures) c.calculated.ensures

pub expr-returns-in_err-value-in-Not : goal.expr-returns-in_err-value-in-Not
expr-returns-in_err-value-in-Not t c = stop _ _ _ _ (not_path _ _ c.in-Not.is c.get-in-Not.ensures) c.from_residual-in_err-value-in-Not.ensures.1 c.in_err-value-in-Not.ensures

pub expr-returns-in_ok-value-in-Not : goal.expr-returns-in_ok-value-in-Not
expr-returns-in_ok-value-in-Not t c = told _ (next _ (not_path _ _ c.in-Not.is c.get-in-Not.ensures) c.in_ok-value-in-Not.ensures) c.calculated-in-Not.ensures

pub expr-returns-in_err-args-in-Apply : goal.expr-returns-in_err-args-in-Apply
expr-returns-in_err-args-in-Apply t c = stop _ _ _ _ (apply_path _ _ c.in-Apply.is c.as_slice.ensures) c.from_residual-in_err-args-in-Apply.ensures.1 c.in_err-args-in-Apply.ensures

pub expr-returns-in_err-results-in-Apply : goal.expr-returns-in_err-results-in-Apply
expr-returns-in_err-results-in-Apply t c =
    stop _ _ _ _ (apply_rest _ _ _ (apply_path _ _ c.in-Apply.is c.as_slice.ensures) c.in_ok-args-in-Apply.ensures c.op_of-op.ensures c.as_slice-in-Apply.ensures c.as_slice-in-Apply-2.ensures)
    c.from_residual-in_err-results-in-Apply.ensures.1 c.in_err-results-in-Apply.ensures

pub expr-returns-in_ok-results-in-Apply : goal.expr-returns-in_ok-results-in-Apply
expr-returns-in_ok-results-in-Apply t c =
    next _ (apply_rest _ _ _ (apply_path _ _ c.in-Apply.is c.as_slice.ensures) c.in_ok-args-in-Apply.ensures c.op_of-op.ensures c.as_slice-in-Apply.ensures c.as_slice-in-Apply-2.ensures) c.in_ok-results-in-Apply.ensures
    ∙ ap Gave (sym c.first_of.ensures)

pub exprs-returns-in_err-value : goal.exprs-returns-in_err-value
exprs-returns-in_err-value t c =
    stop _ _ _ _ (more_path _ _ c.args.trees.now c.loop-tree.tree-index c.loop-tree.values c.loop-tree-test.true c.tree-item.is c.loop-tree.invariant) c.from_residual.ensures.1 c.in_err-value.ensures

pub exprs-loop-tree-preserved : goal.exprs-loop-tree-preserved
exprs-loop-tree-preserved t c =
    next _ (more_path _ _ c.args.trees.now c.loop-tree.tree-index c.loop-tree.values c.loop-tree-test.true c.tree-item.is c.loop-tree.invariant) c.in_ok-value.ensures
    ∙ ap (λ us. onto us (Firsts c.args.line c.args.env.now (drop (c.loop-tree.tree-index + 1) c.args.trees.now))) (sym c.in_ok-push.ensures.ok)
