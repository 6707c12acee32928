use Rattle.fit_blocks.proofs.EndingLemmas.{empty, more_than_none, test_failed, test_more, test_over, when_none, when_some}
use Rattle.fit_blocks.proofs.ending.end_test.Goals as goal

pub returns-in_default-clause-over : goal.returns-in_default-clause-over
returns-in_default-clause-over c = λ V s is.
    let p = c.in_ok-left in
    test_failed c.args.regs V c.args.mark s c.args.code.now (when_none p.field-0 _ _ c.in_default.is (p.ensures.passed V s is))

pub returns-then-is_empty-clause-over : goal.returns-then-is_empty-clause-over
returns-then-is_empty-clause-over c = λ V s is.
    let p = c.in_ok-left in
    let g = when_some p.field-0 _ _ c.in-Some.left c.in-Some.is (p.ensures.passed V s is) in
    test_over c.args.regs V c.args.mark s c.args.code.now c.pass_all.new.state c.in-Some.left.now g (empty c.in-Some.left.now c.if-is_empty.ensures) c.none_left.result (c.none_left.ensures c.args.regs g.next g.is)

pub returns-else-is_empty-clause-over : goal.returns-else-is_empty-clause-over
returns-else-is_empty-clause-over c = λ V s is.
    let p = c.in_ok-left in
    let g = when_some p.field-0 _ _ c.in-Some.left c.in-Some.is (p.ensures.passed V s is) in
    test_more c.args.regs V c.args.mark s c.args.code.now c.pass_all.new.state c.in-Some.left.now g (more_than_none c.in-Some.left.now c.if-is_empty.ensures)
