use Rattle.std.proofs.Common.{ap, ◌∙◌, refl, sym, subst}
use Rattle.std.specs.Prelude.{IfOk, None, Some}
use Rattle.context_laws.specs.Stacks.{falls_at}
use Rattle.context_laws.specs.Steps.{with_spots}
use Rattle.ownership.specs.Entries.{spots_of}
use Rattle.rule_check.specs.Context.{binding, shapes_of}
use Rattle.rule_walk.specs.Sides.{OtherWalked}
use Rattle.nres_core.proofs.FlatMirrored.{flat_mirrored}
use Rattle.nres_core.specs.FlatTree as f
use Rattle.nres_core.specs.FlatTree.{Before, before_of, binds_of, flats_of}
use Rattle.rule_steps.specs.States.{ctx_of}
use Rattle.rule_steps.proofs.LoopsLemmas.{if_ok_then}
use Rattle.rule_walk.specs.Walks.{book_in}
use Rattle.rule_walk.proofs.CycleLemmas.{bind_is, binds_next, grows_on, open_on, saved_is, side_refused, side_ends}
use Rattle.rule_walk.proofs.EitherLemmas.{either_bind, first_taken, then_other, other_taken, other_refused}
use Rattle.rule_check.specs.Facts.{defs_behind, learnt}
use Rattle.rule_walk.proofs.BranchLemmas.{branch_left, branch_over, branch_refused, fork_grows, if_ok_both, left_over, par_bind, par_goes, right_over, split_bind, split_goes, with_context}
use Rattle.rule_walk.proofs.ChoiceLemmas.{if_bind, first_joins, first_refused, side_joined, side_known, side_unjoined}
use Rattle.rule_walk.proofs.TurnLemmas.{head_over, turn_over, while_bind, while_walked}
use Rattle.rule_walk.specs.Branches.{LeftWalked, RightWalked}
use Rattle.rule_walk.specs.Turns.{HeadWalked, TurnWalked}
use Rattle.rule_walk.proofs.walk.+walk.Goals as goal

pub walk_bind-returns-in-Any-clause-walked : goal.walk_bind-returns-in-Any-clause-walked
walk_bind-returns-in-Any-clause-walked t c =
    if_ok_then c.walk_any.result _ _
    (λ o h. bind_is (book_in c.args.book.now) c.args.bind.now (f.Any c.in-Any.place c.in-Any.out c.in-Any.low c.in-Any.high) c.args.state.now c.walk_any.new.state o
    (ap before_of c.in-Any.is ∙ flat_mirrored.any c.in-Any.place c.in-Any.out c.in-Any.low c.in-Any.high) (h c.in-Any.place c.in-Any.low))
    c.walk_any.ensures.walked

pub walk_binds-returns-in-Some-clause-grows : goal.walk_binds-returns-in-Some-clause-grows
walk_binds-returns-in-Some-clause-grows t c = grows_on c.args.state.now c.each.state c.walk_bind.new.state c.each.invariant.1.0 c.in_ok-walk_bind.ensures.grows

pub walk_side-returns-in-Some-clause-side : goal.walk_side-returns-in-Some-clause-side
walk_side-returns-in-Some-clause-side t c =
    side_refused (book_in c.args.book.now) c.args.block.now c.as_slice.result.now c.args.state.now c.open_side.new.state c.walk_binds.new.state c.in_ok-refusal.field-0
    c.in_ok-begun.ensures.state c.as_slice.ensures c.in_ok-refusal.ensures.walked c.in-Some.refusal c.in-Some.is

pub walk_side-returns-in-None-clause-side : goal.walk_side-returns-in-None-clause-side
walk_side-returns-in-None-clause-side t c =
    if_ok_then c.end_side.result _ _
    (λ side end. side_ends (book_in c.args.book.now) c.args.block.now c.as_slice.result.now c.args.state.now c.open_side.new.state c.walk_binds.new.state c.in_ok-refusal.field-0
    c.in_ok-begun.ensures.state c.as_slice.ensures c.in_ok-refusal.ensures.walked c.in_ok-begun.begun.count side c.in_ok-begun.ensures.count (saved_is c.args.state.now c.open_side.new.state c.walk_binds.new.state c.in_ok-begun.ensures.state c.in_ok-refusal.ensures.grows) c.in-None.is end)
    c.end_side.ensures.end

pub walk_bind-returns-in-Assert-clause-walked : goal.walk_bind-returns-in-Assert-clause-walked
walk_bind-returns-in-Assert-clause-walked t c =
    let a = c.in-Assert in
    if_ok_then c.walk_assert.result _ _
    (λ o h. bind_is (book_in c.args.book.now) c.args.bind.now (f.Assert a.place (binds_of c.as_slice-in-Assert.result.now) a.test) c.args.state.now c.walk_assert.new.state o
    (ap before_of a.is ∙ flat_mirrored.assert a.place a.inner a.test ∙ ap {B = Before} (λ bs. f.Assert a.place (binds_of bs) a.test) (sym c.as_slice-in-Assert.ensures)) (h a.place))
    c.walk_assert.ensures.walked

pub walk_binds-each-preserved : goal.walk_binds-each-preserved
walk_binds-each-preserved t c =
    let g = c.in_ok-walk_bind.ensures.grows in (
      binds_next (book_in c.args.book.now) c.args.binds.now c.each.bind-index c.bind-item.result c.args.state.now c.each.state c.walk_bind.new.state c.in_ok-walk_bind.field-0 c.each-test.true c.bind-item.is
          c.each.invariant.0 c.in_ok-walk_bind.ensures.walked c.in-None.is,
      (grows_on c.args.state.now c.each.state c.walk_bind.new.state c.each.invariant.1.0 g, open_on c.each.state c.walk_bind.new.state g c.each.invariant.1.1),
    )

pub walk_other-returns-in_ok-take_side-in-Ok-clause-walked : goal.walk_other-returns-in_ok-take_side-in-Ok-clause-walked
walk_other-returns-in_ok-take_side-in-Ok-clause-walked t c = λ rest.
    let e = c.in_ok-take_side-in-Ok.ensures in
    other_taken (book_in c.args.book.now) (flats_of c.args.block.now) c.args.outs.now c.args.state.now c.walk_side.new.state c.take_side.new.state c.in_ok-side.field-0 c.in-Ok.side rest
    c.in_ok-side.ensures.same c.in_ok-side.ensures.side c.in-Ok.is e.context e.facts e.calculations e.start

pub walk_other-returns-in-Err-clause-walked : goal.walk_other-returns-in-Err-clause-walked
walk_other-returns-in-Err-clause-walked t c = λ rest.
    other_refused (book_in c.args.book.now) (flats_of c.args.block.now) c.args.outs.now c.args.state.now c.in_ok-side.field-0 c.in-Err.refusal rest c.in_ok-side.ensures.side c.in-Err.is

pub walk_bind-returns-in_ok-take_side-in-Ok-2-clause-walked : goal.walk_bind-returns-in_ok-take_side-in-Ok-2-clause-walked
walk_bind-returns-in_ok-take_side-in-Ok-2-clause-walked t c =
    let e = c.in_ok-take_side-in-Ok-2.ensures in
    let a = c.in-Either in
    let book = book_in c.args.book.now in
    bind_is book c.args.bind.now (either_bind a.place a.outs (flats_of a.left) (flats_of a.right)) c.args.state.now c.take_side.new.state None (ap before_of a.is ∙ flat_mirrored.either a.place a.outs a.left a.right)
    (first_taken book a.place (flats_of a.left) (flats_of a.right) a.outs c.args.state.now c.walk_side.new.state c.take_side.new.state c.in_ok-side-in-Either.field-0 c.in-Ok-2.side
    c.in_ok-side-in-Either.ensures.same c.in_ok-side-in-Either.ensures.side c.in-Ok-2.is
    (e.context ∙ ap (λ z. with_spots c.walk_side.new.state.context (binding z (shapes_of (spots_of c.in-Ok-2.side.results)) (falls_at c.in-Ok-2.side.went c.walk_side.new.state.context.spots))) c.as_slice-in-Ok-2.ensures) e.facts e.calculations e.start)

pub walk_bind-returns-in-Err-2-clause-walked : goal.walk_bind-returns-in-Err-2-clause-walked
walk_bind-returns-in-Err-2-clause-walked t c =
    let a = c.in-Either in
    let book = book_in c.args.book.now in
    if_ok_then c.walk_other.result _ _
    (λ o w. bind_is book c.args.bind.now (either_bind a.place a.outs (flats_of a.left) (flats_of a.right)) c.args.state.now c.walk_other.new.state o (ap before_of a.is ∙ flat_mirrored.either a.place a.outs a.left a.right)
    (then_other book a.place (flats_of a.left) (flats_of a.right) a.outs c.args.state.now c.walk_side.new.state c.walk_other.new.state c.in_ok-side-in-Either.field-0 c.in-Err-2.refusal o
    c.in_ok-side-in-Either.ensures.same c.in_ok-side-in-Either.ensures.side c.in-Err-2.is
    (subst (λ z. OtherWalked book (flats_of a.right) z c.walk_side.new.state c.walk_other.new.state o) c.as_slice-in-Err-2.ensures w)))
    c.walk_other.ensures.walked

-- ---- `if`

pub walk_bind-returns-in-Ok-clause-walked : goal.walk_bind-returns-in-Ok-clause-walked
walk_bind-returns-in-Ok-clause-walked t c =
    let a = c.in-If in
    let book = book_in c.args.book.now in
    if_ok_then c.walk_no.result _ _
    (λ o w. bind_is book c.args.bind.now (if_bind a.place a.outs a.test (flats_of a.yes) (flats_of a.no)) c.args.state.now c.walk_no.new.state o (ap before_of a.is ∙ flat_mirrored.choice a.place a.outs a.test a.yes a.no)
    (first_joins book a.place a.outs a.test (flats_of a.yes) (flats_of a.no) c.args.state.now c.as_slice-in-Ok.result.now c.in-Ok.side c.walk_yes.new.state c.walk_no.new.state c.in_ok-side-in-If.field-0 o
    c.as_slice-in-Ok.ensures c.in_ok-side-in-If.ensures.same c.in_ok-side-in-If.ensures.side c.in-Ok.is w))
    c.walk_no.ensures.joined

pub walk_bind-returns-in-Err-clause-walked : goal.walk_bind-returns-in-Err-clause-walked
walk_bind-returns-in-Err-clause-walked t c =
    let a = c.in-If in
    let book = book_in c.args.book.now in
    bind_is book c.args.bind.now (if_bind a.place a.outs a.test (flats_of a.yes) (flats_of a.no)) c.args.state.now c.walk_yes.new.state (Some c.in-Err.refusal) (ap before_of a.is ∙ flat_mirrored.choice a.place a.outs a.test a.yes a.no)
    (first_refused book a.place a.outs a.test (flats_of a.yes) (flats_of a.no) c.args.state.now c.walk_yes.new.state c.in_ok-side-in-If.field-0 c.in-Err.refusal c.in_ok-side-in-If.ensures.side c.in-Err.is)

pub walk_yes-returns-clause-side : goal.walk_yes-returns-clause-side
walk_yes-returns-clause-side t c =
    let x = c.args.state.now in
    side_known (book_in c.args.book.now) (learnt (defs_behind c.args.place (ctx_of x).defs) c.args.test) (flats_of c.args.block.now) x c.learn.new.state c.in_ok-side.side c.in_ok-mark.ensures.state c.in_ok-side.ensures.side

pub walk_no-returns-in-Ok-clause-joined : goal.walk_no-returns-in-Ok-clause-joined
walk_no-returns-in-Ok-clause-joined t c =
    let j = c.args.joint.now in
    if_ok_then c.join_sides.result _ _
    (λ o w. side_joined (book_in c.args.book.now) j.place j.outs.now j.left.now (flats_of c.args.block.now) c.args.state.now c.walk_side.new.state c.join_sides.new.state c.in_ok-side.field-0 c.in-Ok.side o
    c.in_ok-side.ensures.same c.in_ok-side.ensures.side c.in-Ok.is w)
    c.join_sides.ensures.joined

pub walk_no-returns-in-Err-clause-joined : goal.walk_no-returns-in-Err-clause-joined
walk_no-returns-in-Err-clause-joined t c =
    let j = c.args.joint.now in
    side_unjoined (book_in c.args.book.now) j.place j.outs.now j.left.now (flats_of c.args.block.now) c.args.state.now c.walk_side.new.state c.in_ok-side.field-0 c.in-Err.refusal c.in_ok-side.ensures.side c.in-Err.is

-- ---- loops

pub walk_head-returns-in-Ok : goal.walk_head-returns-in-Ok
walk_head-returns-in-Ok t c =
    let book = book_in c.args.book.now in
    let cs = binds_of c.args.binds.now in
    let said = c.walk_binds-said in
    if_ok_then c.end_head.result _ _
    (λ r over. subst (λ q. HeadWalked book cs c.args.test q c.args.state.now r c.end_head.new.state) (sym c.in-Ok.is)
    (head_over book cs c.args.test c.in-Ok.looping c.args.state.now c.begin_list.new.state said.new.state c.end_head.new.state said.result r c.begin_list.ensures said.ensures.walked said.ensures.grows over))
    c.end_head.ensures

pub walk_turn-returns-in-Ok : goal.walk_turn-returns-in-Ok
walk_turn-returns-in-Ok t c =
    let book = book_in c.args.book.now in
    let l = c.args.block.now in
    let said = c.walk_binds-said in
    if_ok_then c.end_loop.result _ _
    (λ o over. subst (λ q. TurnWalked book (flats_of l) c.args.outs.now q c.args.state.now o c.end_loop.new.state) (sym c.in-Ok.is)
    (turn_over book l c.as_slice.result.now c.args.outs.now c.in-Ok.looping c.args.state.now c.begin_list.new.state said.new.state c.end_loop.new.state said.result o c.begin_list.ensures c.as_slice.ensures said.ensures.walked said.ensures.grows over))
    c.end_loop.ensures

pub walk_bind-returns-in_ok-looping-in-While-2-clause-walked : goal.walk_bind-returns-in_ok-looping-in-While-2-clause-walked
walk_bind-returns-in_ok-looping-in-While-2-clause-walked t c =
    let a = c.in-While in
    let book = book_in c.args.book.now in
    if_ok_then c.walk_turn.result _ _
    (λ o h. bind_is book c.args.bind.now (while_bind a.place a.outs a.vars a.starts (binds_of a.cond) a.test (flats_of a.body)) c.args.state.now c.walk_turn.new.state o (ap before_of a.is ∙ flat_mirrored.loop a.place a.outs a.vars a.starts a.cond a.test a.body)
    (while_walked book a.place a.outs c.as_slice-in-While-4.result.now a.vars c.as_slice-in-While-2.result.now a.starts c.as_slice-in-While.result.now a.cond c.as_slice-in-While-3.result.now a.test (flats_of a.body)
    c.args.state.now c.begin_loop.new.state c.walk_head.new.state c.walk_turn.new.state o c.in_ok-looping-in-While.looping c.in_ok-looping-in-While-2.looping
    c.as_slice-in-While-4.ensures c.as_slice-in-While-2.ensures c.as_slice-in-While.ensures c.as_slice-in-While-3.ensures c.in_ok-looping-in-While.ensures c.in_ok-looping-in-While-2.ensures h).0)
    c.walk_turn.ensures

pub walk_bind-returns-in_ok-looping-in-While-2-clause-grows : goal.walk_bind-returns-in_ok-looping-in-While-2-clause-grows
walk_bind-returns-in_ok-looping-in-While-2-clause-grows t c =
    let a = c.in-While in
    let book = book_in c.args.book.now in
    if_ok_then c.walk_turn.result _ _
    (λ o h. (while_walked book a.place a.outs c.as_slice-in-While-4.result.now a.vars c.as_slice-in-While-2.result.now a.starts c.as_slice-in-While.result.now a.cond c.as_slice-in-While-3.result.now a.test (flats_of a.body)
    c.args.state.now c.begin_loop.new.state c.walk_head.new.state c.walk_turn.new.state o c.in_ok-looping-in-While.looping c.in_ok-looping-in-While-2.looping
    c.as_slice-in-While-4.ensures c.as_slice-in-While-2.ensures c.as_slice-in-While.ensures c.as_slice-in-While-3.ensures c.in_ok-looping-in-While.ensures c.in_ok-looping-in-While-2.ensures h).1)
    c.walk_turn.ensures

-- ---- branches

pub walk_left-returns-in-Ok-clause-walked : goal.walk_left-returns-in-Ok-clause-walked
walk_left-returns-in-Ok-clause-walked t c =
    let book = book_in c.args.book.now in
    let b = flats_of c.args.block.now in
    let said = c.walk_branch-said in
    subst (λ w. IfOk c.forked.result (λ r. LeftWalked book b c.args.state.now w r)) (sym c.in-Ok.is)
    (left_over book b c.args.state.now c.in-Ok.fork said.new.branch said.result c.forked.result said.ensures.walked c.forked.ensures)

pub walk_right-returns-in-Ok-clause-walked : goal.walk_right-returns-in-Ok-clause-walked
walk_right-returns-in-Ok-clause-walked t c =
    let book = book_in c.args.book.now in
    let b = flats_of c.args.block.now in
    let said = c.walk_branch-said in
    subst (λ w. IfOk c.forked.result (λ r. RightWalked book b c.args.state.now w r)) (sym c.in-Ok.is)
    (right_over book b c.args.state.now c.in-Ok.fork said.new.branch said.result c.forked.result said.ensures.walked c.forked.ensures)

pub walk_branch-returns-in-Some-clause-walked : goal.walk_branch-returns-in-Some-clause-walked
walk_branch-returns-in-Some-clause-walked t c =
    let e = c.enter_branch-entered in
    branch_refused (book_in c.args.book.now) c.args.block.now c.as_slice.result.now c.args.state.now e.new.state c.walk_binds.new.state c.args.branch.now e.new.branch c.in_ok-refusal.field-0
    e.ensures.state e.ensures.branch c.as_slice.ensures c.in_ok-refusal.ensures.walked c.in-Some.refusal c.leave_branch.new.branch c.in-Some.is

pub walk_branch-returns-in-Some-clause-same : goal.walk_branch-returns-in-Some-clause-same
walk_branch-returns-in-Some-clause-same t c =
    let e = c.enter_branch-entered in
    branch_left c.args.state.now e.new.state c.walk_binds.new.state c.leave_branch.new.state c.args.branch.now e.new.branch e.result e.ensures.state e.ensures.branch c.in_ok-refusal.ensures.grows e.ensures.facts e.ensures.start c.leave_branch.ensures.state

pub walk_branch-returns-in-None-clause-walked : goal.walk_branch-returns-in-None-clause-walked
walk_branch-returns-in-None-clause-walked t c =
    let e = c.enter_branch-entered in
    let book = book_in c.args.book.now in
    if_ok_both c.end_branch.result _ _ _
    (λ o ended keeps. branch_over book c.args.block.now c.as_slice.result.now c.args.state.now e.new.state c.walk_binds.new.state c.args.branch.now e.new.branch c.in_ok-refusal.field-0
    e.ensures.state e.ensures.branch c.as_slice.ensures c.in_ok-refusal.ensures.walked o c.end_branch.new.branch c.in-None.is (ended book refl) keeps)
    c.end_branch.ensures.ended c.end_branch.ensures.keeps

pub walk_branch-returns-in-None-clause-same : goal.walk_branch-returns-in-None-clause-same
walk_branch-returns-in-None-clause-same t c =
    let e = c.enter_branch-entered in
    if_ok_then c.end_branch.result _ _
    (λ o leaves. branch_left c.args.state.now e.new.state c.walk_binds.new.state c.end_branch.new.state c.args.branch.now e.new.branch e.result e.ensures.state e.ensures.branch c.in_ok-refusal.ensures.grows e.ensures.facts e.ensures.start leaves)
    c.end_branch.ensures.state

-- ---- forks

pub walk_bind-returns-in_ok-opened-in-Par-3-clause-walked : goal.walk_bind-returns-in_ok-opened-in-Par-3-clause-walked
walk_bind-returns-in_ok-opened-in-Par-3-clause-walked t c =
    let a = c.in-Par in
    let book = book_in c.args.book.now in
    if_ok_then c.close_fork.result _ _
    (λ o closed. bind_is book c.args.bind.now (par_bind a.place a.outs (flats_of a.left) (flats_of a.right)) c.args.state.now (with_context c.close_fork.new.context c.walk_right.new.state) o (ap before_of a.is ∙ flat_mirrored.pair a.place a.outs a.left a.right)
    (par_goes book a.place a.outs c.as_slice-in-Par.result.now (flats_of a.left) (flats_of a.right) c.args.state.now c.walk_left.new.state c.walk_right.new.state c.close_fork.new.context o c.in_ok-opened-in-Par.opened c.in_ok-opened-in-Par-2.opened c.in_ok-opened-in-Par-3.opened
    c.in_ok-opened-in-Par-2.ensures.same c.in_ok-opened-in-Par-3.ensures.same c.as_slice-in-Par.ensures (c.in_ok-opened-in-Par.ensures book refl) c.in_ok-opened-in-Par-2.ensures.walked c.in_ok-opened-in-Par-3.ensures.walked closed))
    c.close_fork.ensures.closed

pub walk_bind-returns-in_ok-opened-in-Par-3-clause-grows : goal.walk_bind-returns-in_ok-opened-in-Par-3-clause-grows
walk_bind-returns-in_ok-opened-in-Par-3-clause-grows t c =
    if_ok_then c.close_fork.result _ _
    (λ o closed. fork_grows c.args.state.now c.walk_left.new.state c.walk_right.new.state c.args.state.now.context c.close_fork.new.context c.in_ok-opened-in-Par-2.ensures.same c.in_ok-opened-in-Par-3.ensures.same refl c.close_fork.ensures.saved)
    c.close_fork.ensures.closed

pub walk_bind-returns-in_ok-opened-in-Split-3-clause-walked : goal.walk_bind-returns-in_ok-opened-in-Split-3-clause-walked
walk_bind-returns-in_ok-opened-in-Split-3-clause-walked t c =
    let a = c.in-Split in
    let book = book_in c.args.book.now in
    if_ok_then c.close_fork-in-Split.result _ _
    (λ o closed. bind_is book c.args.bind.now (split_bind a.place a.outs a.list a.at a.left_var (flats_of a.left) a.right_var (flats_of a.right)) c.args.state.now (with_context c.close_fork-in-Split.new.context c.walk_right-in-Split.new.state) o (ap before_of a.is ∙ flat_mirrored.split a.place a.outs a.list a.at a.left_var a.left a.right_var a.right)
    (split_goes book a.place a.outs c.as_slice-in-Split.result.now a.list a.at a.left_var a.right_var (flats_of a.left) (flats_of a.right) c.args.state.now c.walk_left-in-Split.new.state c.walk_right-in-Split.new.state c.open_split.new.context c.close_fork-in-Split.new.context o c.in_ok-opened-in-Split.opened c.in_ok-opened-in-Split-2.opened c.in_ok-opened-in-Split-3.opened
    c.in_ok-opened-in-Split-2.ensures.same c.in_ok-opened-in-Split-3.ensures.same c.as_slice-in-Split.ensures (c.in_ok-opened-in-Split.ensures.opened book refl) c.in_ok-opened-in-Split-2.ensures.walked c.in_ok-opened-in-Split-3.ensures.walked closed))
    c.close_fork-in-Split.ensures.closed

pub walk_bind-returns-in_ok-opened-in-Split-3-clause-grows : goal.walk_bind-returns-in_ok-opened-in-Split-3-clause-grows
walk_bind-returns-in_ok-opened-in-Split-3-clause-grows t c =
    if_ok_then c.close_fork-in-Split.result _ _
    (λ o closed. fork_grows c.args.state.now c.walk_left-in-Split.new.state c.walk_right-in-Split.new.state c.open_split.new.context c.close_fork-in-Split.new.context c.in_ok-opened-in-Split-2.ensures.same c.in_ok-opened-in-Split-3.ensures.same c.open_split.ensures.saved c.close_fork-in-Split.ensures.saved)
    c.close_fork-in-Split.ensures.closed
