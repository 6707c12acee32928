use Rattle.std.proofs.Common.{◌≡◌, length, arith}
use Rattle.nres_core.specs.Mirror.{exp_of, all_exps}
use Rattle.nres_rules.specs.Types.{exps_type}
use Rattle.nres_types.specs.Findings.{told_of}
use Rattle.nres_types.proofs.Steps.{operand_done, binary_done, apply_done, applied_done, has_place, exps_more, exps_done}
use Rattle.nres_types.proofs.exprs.+exprs.Goals as goal

pub applied-returns : goal.applied-returns
applied-returns t c =
    let n : c.len-at.result ≡ length (told_of c.args.findings.now).words = omega (arith, c.args.findings.now.words.ok) in
    applied_done (told_of c.args.findings.now) (told_of c.add_word.new.self) (told_of c.exprs.new.findings) (told_of c.settle.new.findings) c.args.place c.args.word.now c.bytes.result.now c.args.made
    (exps_type (all_exps c.args.args.now) c.args.scope.now) c.in_ok-heads.heads.items c.as_slice.result.now c.len-at.result c.settle.result
    c.in_ok-add_word.ensures c.in_ok-heads.ensures c.as_slice.ensures.value c.bytes.ensures n c.settle.ensures.head c.settle.ensures.told

pub applied-settle-requires : goal.applied-settle-requires
applied-settle-requires t c =
    let n : c.len-at.result ≡ length (told_of c.args.findings.now).words = omega (arith, c.args.findings.now.words.ok) in
    has_place (told_of c.args.findings.now) (told_of c.add_word.new.self) (told_of c.exprs.new.findings) (exps_type (all_exps c.args.args.now) c.args.scope.now) c.in_ok-heads.heads.items c.len-at.result
    c.in_ok-add_word.ensures c.in_ok-heads.ensures n

pub expr-returns-in_ok-operand-in-Binary-2 : goal.expr-returns-in_ok-operand-in-Binary-2
expr-returns-in_ok-operand-in-Binary-2 t c =
    binary_done (told_of c.args.findings.now) (told_of c.operand.new.findings) (told_of c.operand-in-Binary.new.findings) c.args.scope.now c.args.tree.now c.get.result.now c.get-in-Binary.result.now
    c.in-Binary.place c.in-Binary.word c.in-Binary.left c.in-Binary.right c.operand_type.result c.operand_type-in-Binary.result c.outcome_type.result
    c.in-Binary.is c.get.ensures c.get-in-Binary.ensures c.operand_type.ensures c.operand_type-in-Binary.ensures c.outcome_type.ensures c.in_ok-operand-in-Binary.ensures c.in_ok-operand-in-Binary-2.ensures

pub expr-returns-in-Apply : goal.expr-returns-in-Apply
expr-returns-in-Apply t c =
    apply_done (told_of c.args.findings.now) (told_of c.applied.new.findings) c.args.scope.now c.args.tree.now c.in-Apply.place c.in-Apply.word c.in-Apply.args c.as_slice.result.now c.in-Apply.made c.applied.result
    c.in-Apply.is c.as_slice.ensures c.applied.ensures

pub exprs-returns : goal.exprs-returns
exprs-returns t c = exps_done (told_of c.args.findings.now) (told_of c.loop-tree.findings) c.loop-tree.heads.items c.args.scope.now (exps_type (all_exps c.args.trees.now) c.args.scope.now) c.args.trees.now c.loop-tree.tree-index c.loop-tree-test.false c.loop-tree.invariant

pub exprs-loop-tree-preserved : goal.exprs-loop-tree-preserved
exprs-loop-tree-preserved t c =
    exps_more (told_of c.args.findings.now) (told_of c.loop-tree.findings) (told_of c.expr.new.findings) c.loop-tree.heads.items c.push.new.self.items c.args.scope.now (exps_type (all_exps c.args.trees.now) c.args.scope.now)
    c.args.trees.now c.loop-tree.tree-index c.tree-item.result c.first_token.result c.in_ok-found.found c.loop-tree-test.true c.tree-item.is c.loop-tree.invariant c.in_ok-found.ensures c.first_token.ensures c.in_ok-push.ensures.items

pub operand-returns : goal.operand-returns
operand-returns t c =
    operand_done (told_of c.args.findings.now) (told_of c.expr.new.findings) (told_of c.expect.new.self) (exp_of c.args.tree.now) c.args.scope.now c.args.want c.in_ok-found.found c.first_token.result c.in_ok-found.ensures c.first_token.ensures c.expect.ensures
