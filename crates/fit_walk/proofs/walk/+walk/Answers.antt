use Rattle.std.proofs.Common.{[], ap, ◌∙◌, refl, sym, subst}
use Rattle.std.proofs.lemmas.List.{drop_all}
use Rattle.std.specs.Prelude.{◌≡◌, true, false, IfOk, None, Some, Ok, Err}
use Rattle.fit_blocks.proofs.GrowsLemmas.{grows_same, still_open}
use Rattle.fit_state.proofs.HeldLemmas.{grows_then}
use Rattle.fit_blocks.specs.Answers.{AnswerIs, At, BindIs, Goes_on, OverIs}
use Rattle.fit_blocks.specs.Choices.{IfBegins, IfFails}
use Rattle.fit_blocks.specs.Loops.{LoopBegins, LoopFails}
use Rattle.fit_blocks.specs.declared.looping.Starting.{Starting}
use Rattle.fit_state.specs.States.{Grows}
use Rattle.fit_walk.proofs.ArmLemmas as arms
use Rattle.fit_walk.proofs.ArmLemmas.{at_next}
use Rattle.fit_walk.proofs.CycleLemmas.{answer_as, block_grows, block_open, not_some, ok_as, ok_grows, opened_grows, over_as, side_as, side_grows, side_open, side_unmet, side_walked, some_as, yes_grows}
use Rattle.fit_walk.proofs.IfLemmas.{second_meets, second_unmet}
use Rattle.fit_walk.proofs.LoopsLemmas as loops
use Rattle.fit_walk.proofs.PlainLemmas.{if_ok_then, if_ok_both}
use Rattle.fit_walk.proofs.SequentialLemmas.{both_are, sequential_next}
use Rattle.fit_walk.proofs.SideLemmas.{side_begins}
use Rattle.fit_walk.proofs.WalkLemmas.{block_over, block_unmet, followed_at, reached_first, reached_last, reached_next, reached_unmet, sequential_at}
use Rattle.fit_walk.proofs.YesLemmas.{taken_begins, taken_goes, taken_unmet, yes_begins, yes_over, yes_state}
use Rattle.fit_walk.specs.Walks.{SideWalked, HeadWalked}
use Rattle.fits.specs.Follow.{Unmet, block, fit, in_test}
use Rattle.fits.specs.Places.{begun_state, with_branch}
use Rattle.rule_check.specs.Steps.{no_list}
use Rattle.sequential.specs.Sequential.{sequential}
use Rattle.nres_core.specs.FlatTree.{before_of, binds_of, flats_of}
use Rattle.proof_lines.specs.Lines.{lines_of}
use Rattle.fit_walk.proofs.walk.+walk.Goals as goal

pub walk_binds-each-init : goal.walk_binds-each-init
walk_binds-each-init t c = λ V s views seq at o. (reached_first c.args.frame.now.regs V (binds_of c.args.binds.now) s c.args.state.now c.args.rest at, seq, grows_same c.args.state.now)

pub walk_binds-each-preserved : goal.walk_binds-each-preserved
walk_binds-each-preserved t c = λ V s views seq at o.
    let R = c.args.frame.now.regs in
    let d = c.bind-item.result in
    let x = c.args.state.now in
    let y = c.each.state in
    let q = c.each.invariant V s views seq at o in
    let p = sequential_next c.args.binds.now c.each.bind-index d c.each-test.true c.bind-item.is q.1 in
    let w = ok_as (λ z. BindIs R V (before_of d) q.0.here c.each.left.code.now (lines_of c.each.left.lines.now) c.walk_bind.new.state z × IfOk z (λ r. Grows y c.walk_bind.new.state)) _ _ c.in-Ok.is (c.in_ok-rest.ensures V q.0.here views p.0 q.0.at (still_open x y q.2 o)) in (
      reached_next R V s c.args.rest.code.now (lines_of c.args.rest.lines.now) c.args.binds.now c.each.bind-index d y c.walk_bind.new.state c.each.left c.in-Ok.rest c.each-test.true c.bind-item.is q.0 w.0,
      p.1,
      grows_then x y c.walk_bind.new.state q.2 w.1,
    )

pub walk_binds-returns-in-Err : goal.walk_binds-returns-in-Err
walk_binds-returns-in-Err t c = λ V s views seq at o.
    let R = c.args.frame.now.regs in
    let d = c.bind-item.result in
    let y = c.each.state in
    let q = c.each.invariant V s views seq at o in
    let p = sequential_next c.args.binds.now c.each.bind-index d c.each-test.true c.bind-item.is q.1 in
    let w = ok_as (λ z. BindIs R V (before_of d) q.0.here c.each.left.code.now (lines_of c.each.left.lines.now) c.walk_bind.new.state z × IfOk z (λ r. Grows y c.walk_bind.new.state)) _ _ c.in-Err.is (c.in_ok-rest.ensures V q.0.here views p.0 q.0.at (still_open c.args.state.now y q.2 o)) in
    (reached_unmet R V s c.args.rest.code.now (lines_of c.args.rest.lines.now) c.args.binds.now c.each.bind-index d y c.walk_bind.new.state c.each.left c.in-Err.unmet c.each-test.true c.bind-item.is q.0 w.0, tt)

pub walk_binds-returns : goal.walk_binds-returns
walk_binds-returns t c = λ V s views seq at o.
    let q = c.each.invariant V s views seq at o in
    (reached_last c.args.frame.now.regs V s c.args.rest.code.now (lines_of c.args.rest.lines.now) c.args.binds.now _ c.each.state c.each.left (drop_all c.each.bind-index c.args.binds.now c.each-test.false) q.0, q.2)

-- ---- blocks

pub walk_block-returns-in-Ok : goal.walk_block-returns-in-Ok
walk_block-returns-in-Ok t c =
    let R = c.args.frame.now.regs in
    let l = c.args.block.now in
    let x = c.args.state.now in
    let y = c.walk_binds.new.state in
    let w = c.in_ok-rest in
    if_ok_both c.finish_block.result _ _ _
    (λ over h grows V s views seq at o.
    let g = answer_as R y _ (Grows x y) _ _ c.in-Ok.is (w.ensures V s views (sequential_at l c.as_slice.result.now c.as_slice.ensures seq) at o) in
    let k = followed_at R V l c.as_slice.result.now s c.args.rest.code.now (lines_of c.args.rest.lines.now) y (Ok c.in-Ok.rest) (Ok c.in-Ok.rest) c.as_slice.ensures refl g.0 in
    (block_over R V (flats_of l).binds c.args.ends.now (flats_of l).ending s c.args.rest.code.now (lines_of c.args.rest.lines.now) y c.finish_block.new.state c.in-Ok.rest k over (h V k.last views k.is), ok_grows x y c.finish_block.new.state over g.1 grows))
    c.finish_block.ensures.over c.finish_block.ensures.grows

pub walk_block-returns-in-Err : goal.walk_block-returns-in-Err
walk_block-returns-in-Err t c = λ V s views seq at o.
    let R = c.args.frame.now.regs in
    let l = c.args.block.now in
    let w = c.in_ok-rest in (
      block_unmet R V (flats_of l).binds c.args.ends.now (flats_of l).ending s c.args.rest.code.now (lines_of c.args.rest.lines.now) c.walk_binds.new.state c.in-Err.unmet
          (followed_at R V l c.as_slice.result.now s c.args.rest.code.now (lines_of c.args.rest.lines.now) c.walk_binds.new.state w.field-0 (Err c.in-Err.unmet) c.as_slice.ensures c.in-Err.is (w.ensures V s views (sequential_at l c.as_slice.result.now c.as_slice.ensures seq) at o).0),
      tt,
    )

-- ---- sides

pub walk_side-returns-in_ok-leave_side-in-Ok : goal.walk_side-returns-in_ok-leave_side-in-Ok
walk_side-returns-in_ok-leave_side-in-Ok t c = λ V u views seq at.
    let R = c.args.frame.now.regs in
    let l = c.args.block.now in
    let x = c.args.state.now in
    let y = c.walk_block.new.state in
    let z = c.open_side.new.state in
    let b = c.in_ok-begun.begun in
    let opened = c.in_ok-begun.ensures.state in
    let side = c.in_ok-leave_side-in-Ok.field-0 in
    let left = c.in_ok-leave_side-in-Ok.ensures.left in
    let w = over_as R y (flats_of l).ending c.args.targets.now _ (Grows z y) _ _ c.in-Ok.is (c.in_ok-over.ensures V (begun_state u []) views seq (subst (λ q. At R q (begun_state u [])) (sym opened) (side_begins R x u at)) (side_open x z opened)) in
    let grows = opened_grows x z y opened w.1 in (
      side_walked R V (flats_of l).binds (flats_of l).ending c.args.targets.now x u at c.args.rest.code.now (lines_of c.args.rest.lines.now) y c.leave_side.new.state b c.in-Ok.over side c.in_ok-begun.ensures.begun grows w.0 left,
      side_grows x y c.leave_side.new.state b c.in_ok-begun.ensures.begun grows left.2,
    )

pub walk_side-returns-in-Err : goal.walk_side-returns-in-Err
walk_side-returns-in-Err t c = λ V u views seq at.
    let R = c.args.frame.now.regs in
    let l = c.args.block.now in
    let x = c.args.state.now in
    let y = c.walk_block.new.state in
    let z = c.open_side.new.state in
    let b = c.in_ok-begun.begun in
    let opened = c.in_ok-begun.ensures.state in
    let w = (over_as R y (flats_of l).ending c.args.targets.now _ (Grows z y) _ _ c.in-Err.is (c.in_ok-over.ensures V (begun_state u []) views seq (subst (λ q. At R q (begun_state u [])) (sym opened) (side_begins R x u at)) (side_open x z opened))).0 in
    (side_unmet R V (flats_of l).binds (flats_of l).ending c.args.targets.now x u at c.args.rest.code.now (lines_of c.args.rest.lines.now) y y b c.in-Err.unmet c.in_ok-begun.ensures.begun w, tt)

pub walk_yes-returns-in-Ok : goal.walk_yes-returns-in-Ok
walk_yes-returns-in-Ok t c = λ V u views seq at.
    let R = c.args.frame.now.regs in
    let l = c.args.block.now in
    let ch = c.args.choice.now in
    let x = c.args.state.now in
    let y = c.learn.new.state in
    let mid = c.walk_side.new.state in
    let new = c.forget_facts.new.state in
    let m = c.in_ok-mark in
    let w = side_as R y mid (yes_state R V (flats_of l).binds (flats_of l).ending ch.targets.now x u at c.args.test.0 c.args.test.1 ch.yes.now (lines_of ch.after.lines.now)) (flats_of l).ending ch.targets.now _ (Grows y mid) _ _ c.in-Ok.is (c.in_ok-side.ensures V (yes_state R V (flats_of l).binds (flats_of l).ending ch.targets.now x u at c.args.test.0 c.args.test.1 ch.yes.now (lines_of ch.after.lines.now)) views seq (yes_begins R V (flats_of l).binds (flats_of l).ending ch.targets.now x u at c.args.test.0 c.args.test.1 ch.yes.now (lines_of ch.after.lines.now) y m.ensures.state)) in (
      yes_over R V (flats_of l).binds (flats_of l).ending ch.targets.now x u at c.args.test.0 c.args.test.1 ch.yes.now (lines_of ch.after.lines.now) y mid new m.mark c.in-Ok.side m.ensures.state m.ensures.count c.forget_facts.ensures w.0,
      yes_grows x y mid new _ m.mark m.ensures.state m.ensures.count c.forget_facts.ensures w.1,
    )

pub walk_yes-returns-in-Err : goal.walk_yes-returns-in-Err
walk_yes-returns-in-Err t c = λ V u views seq at.
    let R = c.args.frame.now.regs in
    let l = c.args.block.now in
    let ch = c.args.choice.now in
    let x = c.args.state.now in
    let y = c.learn.new.state in
    let m = c.in_ok-mark in
    ((side_as R y c.walk_side.new.state (yes_state R V (flats_of l).binds (flats_of l).ending ch.targets.now x u at c.args.test.0 c.args.test.1 ch.yes.now (lines_of ch.after.lines.now)) (flats_of l).ending ch.targets.now _ (Grows y c.walk_side.new.state) _ _ c.in-Err.is (c.in_ok-side.ensures V (yes_state R V (flats_of l).binds (flats_of l).ending ch.targets.now x u at c.args.test.0 c.args.test.1 ch.yes.now (lines_of ch.after.lines.now)) views seq (yes_begins R V (flats_of l).binds (flats_of l).ending ch.targets.now x u at c.args.test.0 c.args.test.1 ch.yes.now (lines_of ch.after.lines.now) y m.ensures.state))).0, tt)

pub walk_no-returns-in-Ok : goal.walk_no-returns-in-Ok
walk_no-returns-in-Ok t c =
    let R = c.args.frame.now.regs in
    let l = c.args.block.now in
    let j = c.args.joint.now in
    let x = c.args.state.now in
    let y = c.walk_side.new.state in
    let new = c.meet_sides.new.state in
    if_ok_both c.meet_sides.result _ _ _
    (λ r h grows V u s1 le views seq at left shown.
    let w = side_as R x y (with_branch u s1.branch) (flats_of l).ending j.choice.targets.now _ (Grows x y) _ _ c.in-Ok.is (c.in_ok-right.ensures V (with_branch u s1.branch) views seq at) in
    (second_meets R V u s1 j c.args.left.now le (flats_of l) x at left shown y c.in-Ok.right w.0 new r h, ok_grows x y new r w.1 grows))
    c.meet_sides.ensures.met c.meet_sides.ensures.grows

pub walk_no-returns-in-Err : goal.walk_no-returns-in-Err
walk_no-returns-in-Err t c = λ V u s1 le views seq at left shown.
    let R = c.args.frame.now.regs in
    let l = c.args.block.now in
    let j = c.args.joint.now in
    let x = c.args.state.now in
    let y = c.walk_side.new.state in
    let w = (side_as R x y (with_branch u s1.branch) (flats_of l).ending j.choice.targets.now _ (Grows x y) _ _ c.in-Err.is (c.in_ok-right.ensures V (with_branch u s1.branch) views seq at)).0 in
    (second_unmet R V u s1 j c.args.left.now le (flats_of l) x at left shown c.in-Err.unmet w, tt)

pub walk_taken-returns-in-Ok : goal.walk_taken-returns-in-Ok
walk_taken-returns-in-Ok t c =
    let R = c.args.frame.now.regs in
    let l = c.args.block.now in
    let x = c.args.state.now in
    let z = c.open_block.new.state in
    let y = c.walk_binds.new.state in
    let new = c.end_side.new.state in
    let b = c.in_ok-begun.begun in
    let begun = c.in_ok-begun.ensures.begun in
    let opened = c.in_ok-begun.ensures.state in
    let code = c.args.rest.code.now in
    let lines = lines_of c.args.rest.lines.now in
    if_ok_both c.end_side.result _ _ _
    (λ r h grows V s views seq at.
    let w = answer_as R y _ (Grows z y) _ _ c.in-Ok.is (c.in_ok-rest.ensures V (begun_state s []) views (sequential_at l c.as_slice.result.now c.as_slice.ensures seq) (taken_begins R x z s at opened) (block_open x z opened)) in
    let g = followed_at R V l c.as_slice.result.now (begun_state s []) code lines y (Ok c.in-Ok.rest) (Ok c.in-Ok.rest) c.as_slice.ensures refl w.0 in
    let k = block_grows x z y opened w.1 in
    (taken_goes R V (flats_of l).binds (flats_of l).ending c.args.outs.now x s at code lines y c.in-Ok.rest g b begun k new r (λ x0 w0 v0. h V x0 w0 v0 views), if_ok_then r _ _ (λ rest f. f x begun k) grows))
    c.end_side.ensures.goes c.end_side.ensures.grows

pub walk_taken-returns-in-Err : goal.walk_taken-returns-in-Err
walk_taken-returns-in-Err t c = λ V s views seq at.
    let R = c.args.frame.now.regs in
    let l = c.args.block.now in
    let x = c.args.state.now in
    let z = c.open_block.new.state in
    let y = c.walk_binds.new.state in
    let opened = c.in_ok-begun.ensures.state in
    let code = c.args.rest.code.now in
    let lines = lines_of c.args.rest.lines.now in
    let w = c.in_ok-rest.ensures V (begun_state s []) views (sequential_at l c.as_slice.result.now c.as_slice.ensures seq) (taken_begins R x z s at opened) (block_open x z opened) in
    (taken_unmet R V (flats_of l).binds (flats_of l).ending c.args.outs.now x s at code lines y c.in-Err.unmet (followed_at R V l c.as_slice.result.now (begun_state s []) code lines y c.in_ok-rest.field-0 (Err c.in-Err.unmet) c.as_slice.ensures c.in-Err.is w.0), tt)

-- ---- loops

pub walk_head-returns-in-Ok : goal.walk_head-returns-in-Ok
walk_head-returns-in-Ok t c =
    let R = c.args.frame.now.regs in
    let st = c.args.starting.now in
    let lo = c.args.looping.now in
    let x = c.args.state.now in
    let y = c.walk_binds.new.state in
    let new = c.end_head.new.state in
    if_ok_then c.end_head.result _ _
    (λ over h V u infos q views seq opened.
    let w = answer_as R y _ (Grows x y) _ _ c.in-Ok.is (c.in_ok-rest.ensures V (in_test (loops.head R V u infos st lo q)) views seq (loops.test_at R V u infos st lo q x opened) (loops.test_open R V u infos st lo q x opened)) in
    let followed = subst (λ z. Goes_on R y c.in-Ok.rest (fit R V (binds_of c.args.binds.now) (in_test (loops.head R V u infos st lo q)) z (lines_of lo.code.lines.now))) c.as_slice.ensures w.0 in
    loops.head_walked R V u infos st lo q (binds_of c.args.binds.now) y c.in-Ok.rest followed new over (subst (λ z. Grows z y) opened w.1) h)
    c.end_head.ensures.ends

pub walk_head-returns-in-Err : goal.walk_head-returns-in-Err
walk_head-returns-in-Err t c = λ V u infos q views seq opened.
    let R = c.args.frame.now.regs in
    let st = c.args.starting.now in
    let lo = c.args.looping.now in
    let x = c.args.state.now in
    let y = c.walk_binds.new.state in
    let w = (answer_as R y _ (Grows x y) _ _ c.in-Err.is (c.in_ok-rest.ensures V (in_test (loops.head R V u infos st lo q)) views seq (loops.test_at R V u infos st lo q x opened) (loops.test_open R V u infos st lo q x opened))).0 in
    loops.test_unmet R V u infos st lo q (binds_of c.args.binds.now) c.in-Err.unmet (subst (λ z. fit R V (binds_of c.args.binds.now) (in_test (loops.head R V u infos st lo q)) z (lines_of lo.code.lines.now) ≡ Unmet (lines_of c.in-Err.unmet.lines.now)) c.as_slice.ensures w)

pub walk_turn-returns-in-Ok : goal.walk_turn-returns-in-Ok
walk_turn-returns-in-Ok t c =
    let R = c.args.frame.now.regs in
    let l = c.args.block.now in
    let lo = c.args.looping.now in
    let hd = c.args.turned.0.now in
    let outs = c.args.turned.1.now in
    let x = c.args.state.now in
    let y = c.walk_block.new.state in
    let new = c.end_loop.new.state in
    if_ok_then c.end_loop.result _ _
    (λ r h V u last infos st q views seq headed same.
    let w = over_as R y (flats_of l).ending lo.code.targets.now _ (Grows x y) _ _ c.in-Ok.is (c.in_ok-over.ensures V (loops.body_begins R V u infos st lo q x hd last headed) views seq (loops.body_at R V u infos st lo q x hd last headed) (loops.body_open R V u infos st lo q x hd last headed)) in
    let body = subst (λ z. OverIs R y (flats_of l).ending lo.code.targets.now (Ok c.in-Ok.over) (block R V (fit R V (flats_of l).binds) lo.begun.count lo.begun.next no_list (flats_of l).ending lo.code.targets.now (loops.body_begins R V u infos st lo q x hd last headed) z (lines_of hd.lines.now))) c.as_slice.ensures w.0 in
    loops.turned_over R V u infos st lo q x hd last headed (flats_of l) same outs y c.in-Ok.over body w.1 new r h)
    c.end_loop.ensures.ends

pub walk_turn-returns-in-Err : goal.walk_turn-returns-in-Err
walk_turn-returns-in-Err t c = λ V u last infos st q views seq headed same.
    let R = c.args.frame.now.regs in
    let l = c.args.block.now in
    let lo = c.args.looping.now in
    let hd = c.args.turned.0.now in
    let outs = c.args.turned.1.now in
    let x = c.args.state.now in
    let y = c.walk_block.new.state in
    let w = (over_as R y (flats_of l).ending lo.code.targets.now _ (Grows x y) _ _ c.in-Err.is (c.in_ok-over.ensures V (loops.body_begins R V u infos st lo q x hd last headed) views seq (loops.body_at R V u infos st lo q x hd last headed) (loops.body_open R V u infos st lo q x hd last headed))).0 in
    let body = subst (λ z. OverIs R y (flats_of l).ending lo.code.targets.now (Err c.in-Err.unmet) (block R V (fit R V (flats_of l).binds) lo.begun.count lo.begun.next no_list (flats_of l).ending lo.code.targets.now (loops.body_begins R V u infos st lo q x hd last headed) z (lines_of hd.lines.now))) c.as_slice.ensures w in
    (loops.turned_unmet R V u infos st lo q x hd last headed (flats_of l) same outs y y c.in-Err.unmet body, tt)

-- ---- binds with blocks

pub walk_bind-returns-in-Ok : goal.walk_bind-returns-in-Ok
walk_bind-returns-in-Ok t c =
    let R = c.args.frame.now.regs in
    let a = c.in-If in
    let d = c.args.bind.now in
    let code = c.args.rest.code.now in
    let lines = lines_of c.args.rest.lines.now in
    let x = c.args.state.now in
    let y = c.begin_if.new.state in
    let mid = c.walk_yes.new.state in
    let new = c.walk_no.new.state in
    let ch = c.in-Some.choice in
    let begun = c.in_ok-choice-in-If.ensures in
    if_ok_then c.walk_no.result _ _
    (λ r h V s views seq at o.
    let b = some_as (IfFails R V s a.test code lines) (IfBegins R V s a.test code lines y) _ ch c.in-Some.is (begun.begins V s at.is) in
    let aty = at_next R x y s b.next at b.is b.entries begun.grows.next in
    let both = both_are (flats_of a.yes).binds (flats_of a.no).binds (arms.if_sequential R V s code lines d a.place a.outs a.test a.yes a.no a.is seq) in
    let w = side_as R y mid b.next (flats_of a.yes).ending ch.targets.now _ (Grows y mid) _ _ c.in-Ok.is (c.in_ok-side-in-If.ensures V b.next views both.0 aty) in
    let q = w.0 in
    let k = h V b.next q.last (flats_of a.yes).ending views both.1 (arms.second_at R V s code lines d a.place a.outs a.test a.yes a.no a.is y ch b mid c.in-Ok.side q aty) (arms.second_leaves R V s code lines d a.place a.outs a.test a.yes a.no a.is y ch b mid c.in-Ok.side q aty) q.results in
    (arms.if_goes R V s code lines d a.place a.outs a.test a.yes a.no a.is y ch b mid c.in-Ok.side q aty new c.as_slice.result.now r c.as_slice.ensures k.0, ok_grows x mid new r (grows_then x y mid begun.grows w.1) k.1))
    c.walk_no.ensures

pub walk_bind-returns-in-If : goal.walk_bind-returns-in-If
walk_bind-returns-in-If t c = λ V s views seq at o.
    let R = c.args.frame.now.regs in
    let a = c.in-If in
    let d = c.args.bind.now in
    let code = c.args.rest.code.now in
    let lines = lines_of c.args.rest.lines.now in
    let x = c.args.state.now in
    let y = c.begin_if.new.state in
    let mid = c.walk_yes.new.state in
    let ch = c.in-Some.choice in
    let begun = c.in_ok-choice-in-If.ensures in
    let b = some_as (IfFails R V s a.test code lines) (IfBegins R V s a.test code lines y) _ ch c.in-Some.is (begun.begins V s at.is) in
    let aty = at_next R x y s b.next at b.is b.entries begun.grows.next in
    let both = both_are (flats_of a.yes).binds (flats_of a.no).binds (arms.if_sequential R V s code lines d a.place a.outs a.test a.yes a.no a.is seq) in
    let w = (side_as R y mid b.next (flats_of a.yes).ending ch.targets.now _ (Grows y mid) _ _ c.in-Err.is (c.in_ok-side-in-If.ensures V b.next views both.0 aty)).0 in
    (arms.yes_unmet R V s code lines d a.place a.outs a.test a.yes a.no a.is y ch b c.in-Err.unmet mid w, tt)

pub walk_bind-returns-in_default-2 : goal.walk_bind-returns-in_default-2
walk_bind-returns-in_default-2 t c = λ V s views seq at o.
    let R = c.args.frame.now.regs in
    let a = c.in-If in
    let code = c.args.rest.code.now in
    let lines = lines_of c.args.rest.lines.now in
    let y = c.begin_if.new.state in
    (arms.if_unmet R V s code lines c.args.bind.now a.place a.outs a.test a.yes a.no a.is (record { lines = c.args.rest.lines }) y refl (not_some (IfFails R V s a.test code lines) (IfBegins R V s a.test code lines y) _ c.in_default-2.not-Some (c.in_ok-choice-in-If.ensures.begins V s at.is)), tt)

-- ---- loops

pub walk_bind-returns-in-Ok-2 : goal.walk_bind-returns-in-Ok-2
walk_bind-returns-in-Ok-2 t c =
    let R = c.args.frame.now.regs in
    let a = c.in-While in
    let d = c.args.bind.now in
    let code = c.args.rest.code.now in
    let lines = lines_of c.args.rest.lines.now in
    let x = c.args.state.now in
    let y = c.begin_loop.new.state in
    let mid = c.walk_head.new.state in
    let new = c.walk_turn.new.state in
    let lo = c.in-Some-2.looping in
    let us = c.as_slice-in-While in
    let xs = c.as_slice-in-While-2 in
    let cs = c.as_slice-in-While-3 in
    let hs = c.as_slice-in-While-4 in
    let st : Starting = record { place = a.place; starts = us.result; vars = xs.result; cond = cs.result; test = a.test; body = _ } in
    if_ok_then c.walk_turn.result _ _
    (λ r h V s views seq at o.
    let b = some_as (LoopFails R V s st code lines) (LoopBegins R V s st code lines x y) _ lo c.in-Some-2.is (c.in_ok-looping-in-While.ensures.begins V s views at) in
    let both = both_are (binds_of a.cond) (flats_of a.body).binds (arms.while_sequential R V s code lines d a.place a.outs a.vars a.starts a.cond a.test a.body a.is seq) in
    let w = ok_as (λ z. HeadWalked R V b.next b.infos st lo b.opened.head mid z (fit R V (binds_of hs.result.now))) _ _ c.in-Ok-2.is (c.in_ok-headed-in-While.ensures V b.next b.infos b.opened views (ap (λ z. sequential (binds_of z)) hs.ensures ∙ both.0) b.new) in
    let g = subst (λ z. HeadWalked R V b.next b.infos st lo b.opened.head mid (Ok c.in-Ok-2.headed) (fit R V (binds_of z))) (hs.ensures ∙ sym cs.ensures) w in
    let k = h V b.next g.last b.infos st b.opened views both.1 g.headed refl in
    (arms.loop_goes R V s code lines d a.place a.outs a.vars a.starts a.cond a.test a.body a.is st refl xs.ensures us.ensures cs.ensures refl refl x y lo b c.in-Ok-2.headed b.opened.head mid g new c.as_slice-in-Ok-2.result.now r c.as_slice-in-Ok-2.ensures k.0, ok_grows x b.opened.outer new r b.grows k.1))
    c.walk_turn.ensures

pub walk_bind-returns-in-While : goal.walk_bind-returns-in-While
walk_bind-returns-in-While t c = λ V s views seq at o.
    let R = c.args.frame.now.regs in
    let a = c.in-While in
    let d = c.args.bind.now in
    let code = c.args.rest.code.now in
    let lines = lines_of c.args.rest.lines.now in
    let x = c.args.state.now in
    let y = c.begin_loop.new.state in
    let mid = c.walk_head.new.state in
    let lo = c.in-Some-2.looping in
    let us = c.as_slice-in-While in
    let xs = c.as_slice-in-While-2 in
    let cs = c.as_slice-in-While-3 in
    let hs = c.as_slice-in-While-4 in
    let st : Starting = record { place = a.place; starts = us.result; vars = xs.result; cond = cs.result; test = a.test; body = _ } in
    let b = some_as (LoopFails R V s st code lines) (LoopBegins R V s st code lines x y) _ lo c.in-Some-2.is (c.in_ok-looping-in-While.ensures.begins V s views at) in
    let both = both_are (binds_of a.cond) (flats_of a.body).binds (arms.while_sequential R V s code lines d a.place a.outs a.vars a.starts a.cond a.test a.body a.is seq) in
    let w = ok_as (λ z. HeadWalked R V b.next b.infos st lo b.opened.head mid z (fit R V (binds_of hs.result.now))) _ _ c.in-Err-2.is (c.in_ok-headed-in-While.ensures V b.next b.infos b.opened views (ap (λ z. sequential (binds_of z)) hs.ensures ∙ both.0) b.new) in
    let g = subst (λ z. HeadWalked R V b.next b.infos st lo b.opened.head mid (Err c.in-Err-2.unmet) (fit R V (binds_of z))) (hs.ensures ∙ sym cs.ensures) w in
    (arms.head_unmet R V s code lines d a.place a.outs a.vars a.starts a.cond a.test a.body a.is st refl xs.ensures us.ensures cs.ensures refl refl x y lo b c.in-Err-2.unmet b.opened.head mid g, tt)

pub walk_bind-returns-in_default-3 : goal.walk_bind-returns-in_default-3
walk_bind-returns-in_default-3 t c = λ V s views seq at o.
    let R = c.args.frame.now.regs in
    let a = c.in-While in
    let code = c.args.rest.code.now in
    let lines = lines_of c.args.rest.lines.now in
    let x = c.args.state.now in
    let y = c.begin_loop.new.state in
    let us = c.as_slice-in-While in
    let xs = c.as_slice-in-While-2 in
    let cs = c.as_slice-in-While-3 in
    let st : Starting = record { place = a.place; starts = us.result; vars = xs.result; cond = cs.result; test = a.test; body = _ } in
    (arms.loop_unmet R V s code lines c.args.bind.now a.place a.outs a.vars a.starts a.cond a.test a.body a.is st refl xs.ensures us.ensures cs.ensures refl refl (record { lines = c.args.rest.lines }) y refl (not_some (LoopFails R V s st code lines) (LoopBegins R V s st code lines x y) _ c.in_default-3.not-Some (c.in_ok-looping-in-While.ensures.begins V s views at)), tt)

-- ---- `either`

pub walk_bind-returns-in-Some-true-default : goal.walk_bind-returns-in-Some-true-default
walk_bind-returns-in-Some-true-default t c =
    let R = c.args.frame.now.regs in
    let a = c.in-Either in
    let d = c.args.bind.now in
    let code = c.args.rest.code.now in
    let lines = lines_of c.args.rest.lines.now in
    let m = c.in-Some-true-default in
    if_ok_then c.walk_taken.result _ _
    (λ r h V s views seq at o.
    let both = both_are (flats_of a.left).binds (flats_of a.right).binds (arms.either_sequential R V s code lines d a.place a.outs a.left a.right a.is seq) in
    let k = h V s views both.0 at in
    (arms.left_goes R V s code lines d a.place a.outs a.left a.right a.is (lines_of m.lines.now) c.walk_taken.new.state c.as_slice-in-Some-true-default.result.now r c.as_slice-in-Some-true-default.ensures (some_as _ _ _ (true, m.lines) (m.is ∙ ap (λ z. Some (z, m.lines)) m.field-0-0-test) c.taken_side.ensures) k.0, k.1))
    c.walk_taken.ensures

pub walk_bind-returns-in-Some-false-default : goal.walk_bind-returns-in-Some-false-default
walk_bind-returns-in-Some-false-default t c =
    let R = c.args.frame.now.regs in
    let a = c.in-Either in
    let d = c.args.bind.now in
    let code = c.args.rest.code.now in
    let lines = lines_of c.args.rest.lines.now in
    let m = c.in-Some-false-default in
    let taken = c.walk_taken-in-Some-false-default in
    if_ok_then taken.result _ _
    (λ r h V s views seq at o.
    let both = both_are (flats_of a.left).binds (flats_of a.right).binds (arms.either_sequential R V s code lines d a.place a.outs a.left a.right a.is seq) in
    let k = h V s views both.1 at in
    (arms.right_goes R V s code lines d a.place a.outs a.left a.right a.is (lines_of m.lines.now) taken.new.state c.as_slice-in-Some-false-default.result.now r c.as_slice-in-Some-false-default.ensures (some_as _ _ _ (false, m.lines) (m.is ∙ ap (λ z. Some (z, m.lines)) m.field-0-0-test) c.taken_side.ensures) k.0, k.1))
    taken.ensures
