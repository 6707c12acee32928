use Rattle.fit_blocks.proofs.EndingLemmas.{empty, end_failed, end_met_all, end_more, grows_behind, if_ok_then, more_than_none, when_none, when_some}
use Rattle.nres_core.specs.FlatTree.{flats_of}
use Rattle.ownership.specs.Entries.{shapes_of}
use Rattle.fit_blocks.proofs.ending.end_block.Goals as goal

pub returns-in_default-clause-over : goal.returns-in_default-clause-over
returns-in_default-clause-over c = λ V s views is.
    let p = c.in_ok-left in
    end_failed c.args.frame.now.regs V c.args.ends.now (flats_of c.args.block.now).ending s c.args.code.now (when_none p.field-0 _ _ c.in_default.is (p.ensures.passed V s is))

pub returns-then-is_empty-clause-over : goal.returns-then-is_empty-clause-over
returns-then-is_empty-clause-over c =
    if_ok_then c.end_here.result _ _
    (λ over h V s views is.
    let p = c.in_ok-left in
    let g = when_some p.field-0 _ _ c.in-Some.left c.in-Some.is (p.ensures.passed V s is) in
    end_met_all c.args.frame.now.regs V c.args.ends.now (flats_of c.args.block.now).ending s c.args.code.now c.pass_all.new.state c.in-Some.left.now g (empty c.in-Some.left.now c.if-is_empty.ensures) c.end_here.new.state shapes_of over (h V g.next views g.is))
    c.end_here.ensures.over

pub returns-then-is_empty-clause-grows : goal.returns-then-is_empty-clause-grows
returns-then-is_empty-clause-grows c = if_ok_then c.end_here.result _ _ (λ over h. grows_behind over c.args.state.now c.pass_all.new.state c.end_here.new.state c.in_ok-left.ensures.grows h) c.end_here.ensures.grows

pub returns-else-is_empty-clause-over : goal.returns-else-is_empty-clause-over
returns-else-is_empty-clause-over c = λ V s views is.
    let p = c.in_ok-left in
    let g = when_some p.field-0 _ _ c.in-Some.left c.in-Some.is (p.ensures.passed V s is) in
    end_more c.args.frame.now.regs V c.args.ends.now (flats_of c.args.block.now).ending s c.args.code.now c.pass_all.new.state c.in-Some.left.now g (more_than_none c.in-Some.left.now c.if-is_empty.ensures)
