use Rattle.std.proofs.Common.{rules, ◌+◌, ◌-◌, ap, ◌∙◌, refl, arith}
use Rattle.std.specs.Prelude.{slice_index}
use Rattle.target_code.specs.declared.tree.Instr.{out-Instr}
use Rattle.target_code.specs.declared.tree.Instr.TheVariants.{outs-If, outs-While}
use Rattle.target_meaning.specs.Place.{list_at}
use Rattle.target_meaning.specs.Stacks.{code_at}
use Rattle.branch_exec.proofs.Took.{goes_on}
use Rattle.branch_exec.proofs.Inside.{body_list, cond_list, if_list, if_not, if_through, in_loop_first, and_then, list_then, listed_not, loop_ended, loop_left, loop_turned, not_not, passed_none, passed_not, passed_plain, while_step}
use Rattle.branch_exec.proofs.FrameRuns.{frame_wide}
use Rattle.branch_exec.proofs.straight.+straight.Goals as goal
use Rattle.branch_exec.proofs.straight.+straight.Goals.{run_if-then-steps, run_if-else-steps}

pub run_if-returns-then-not-enter : goal.run_if-returns-then-not-enter
run_if-returns-then-not-enter g t c =
    let s = g.S.Store.kept c.args.store.now in
    passed_none c.args.procs.now c.args.frame.now c.enter.new.frame s s c.args.most c.args.next ((c.if-not-enter.ensures.no refl), goes_on s)

pub run_if-run_list-steps-requires : goal.run_if-run_list-steps-requires
run_if-run_list-steps-requires g t c κs within =
    let w = c.word_in.ensures ∙ ap (λ l. slice_index l c.in-If.test) c.as_slice.ensures in
    let lt = c.requires.some in
    let e = ap out-Instr c.in-If.is ∙ outs-If c.in-If.test c.in-If.yes c.in-If.no in
    (omega arith, (search rules, if_list c.args.procs.now c.args.frame.now c.enter.new.frame c.args.instr.now c.args.next c.word_in.result c.in-If.test c.in-If.yes c.in-If.no c.side-inner.result.0 c.side-inner.result.1.now c.requires.at e c.side-inner.ensures (c.if-not-enter.ensures.yes refl)))

pub run_if-returns : goal.run_if-returns
run_if-returns g t c =
    let k = g.S.Store.kept in
    let word = c.word_in.ensures ∙ ap (λ l. slice_index l c.in-If.test) c.as_slice.ensures in
    let e = ap out-Instr c.in-If.is ∙ outs-If c.in-If.test c.in-If.yes c.in-If.no in
    elim c.if-steps.branch [
      | run_if-then-steps w ↦ if_through c.args.procs.now c.args.frame.now c.enter.new.frame c.run_list-steps.new.frame c.if-steps.frame c.args.instr.now c.args.next c.word_in.result c.in-If.test c.args.most c.in-If.yes c.in-If.no c.side-inner.result.0 c.side-inner.result.1.now (k c.args.store.now) (k c.run_list-steps.new.store) c.run_list-steps.result
          c.requires.at e word c.side-inner.ensures (c.if-not-enter.ensures.yes refl) c.requires.some c.run_list-steps.ensures w.if-steps.true (w.frame-is ∙ w.leave.ensures c.args.frame.now.outer (record { index = c.args.frame.now.at; inner = c.side-inner.result.0 }) ((c.run_list-steps.ensures.among w.if-steps.true).outer ∙ ap (λ (y : Rattle.target_meaning.specs.declared.stack.Frame.Frame). y.outer) (c.if-not-enter.ensures.yes refl)))
      | run_if-else-steps w ↦ if_not c.args.procs.now c.args.frame.now c.enter.new.frame c.run_list-steps.new.frame c.if-steps.frame c.args.instr.now c.args.next c.word_in.result c.in-If.test c.args.most c.in-If.yes c.in-If.no c.side-inner.result.0 c.side-inner.result.1.now (k c.args.store.now) (k c.run_list-steps.new.store) c.run_list-steps.result
          c.requires.at e word c.side-inner.ensures (c.if-not-enter.ensures.yes refl) c.requires.some c.run_list-steps.ensures w.if-steps.false w.frame-is
    ]

pub run_instr-returns-then-plain : goal.run_instr-returns-then-plain
run_instr-returns-then-plain g t c =
    let k = g.S.Store.kept in
    let x = c.if-plain.ensures in
    passed_plain c.args.procs.now c.args.frame.now c.plain.new.frame (k c.args.store.now) (k c.plain.new.store) c.args.most c.args.next c.args.instr.now c.requires.some c.requires.at x.made x.proc x.outer (x.at refl)

pub run_list-instructions-preserved : goal.run_list-instructions-preserved
run_list-instructions-preserved g t c =
    let k = g.S.Store.kept in
    let i = c.instructions.invariant in
    list_then c.args.procs.now c.args.frame.now c.instructions.frame c.run_instr-steps.new.frame (k c.args.store.now) (k c.instructions.store) (k c.run_instr-steps.new.store) c.args.most c.instructions.made (c.instructions.frame.at + 1) c.run_instr-steps.result (not_not c.run_instr-steps.result.through c.if-not-steps.false) i.0 i.1 c.run_instr-steps.ensures

pub run_list-returns-then-not-steps : goal.run_list-returns-then-not-steps
run_list-returns-then-not-steps g t c =
    let k = g.S.Store.kept in
    let T = c.args.procs.now in
    let i = c.instructions.invariant in
    listed_not T c.args.list.now c.args.frame.now c.run_instr-steps.new.frame (k c.args.store.now) (k c.run_instr-steps.new.store) c.args.most (c.instructions.made + c.run_instr-steps.result.made)
    (and_then T c.args.frame.now c.instructions.frame c.run_instr-steps.new.frame (k c.args.store.now) (k c.instructions.store) (k c.run_instr-steps.new.store) c.args.most c.instructions.made c.run_instr-steps.result.made i.0 c.run_instr-steps.ensures.ran)

pub run_while-returns-in_default : goal.run_while-returns-in_default
run_while-returns-in_default g t c =
    let s = g.S.Store.kept c.args.store.now in
    passed_none c.args.procs.now c.args.frame.now c.args.frame.now s s c.args.most c.args.next (refl, goes_on s)

pub run_while-returns-then-not-enter : goal.run_while-returns-then-not-enter
run_while-returns-then-not-enter g t c =
    let s = g.S.Store.kept c.args.store.now in
    passed_none c.args.procs.now c.args.frame.now c.enter.new.frame s s c.args.most c.args.next ((c.if-not-enter.ensures.no refl), goes_on s)

pub run_while-turns-init : goal.run_while-turns-init
run_while-turns-init g t c =
    let s = g.S.Store.kept c.args.store.now in
    let e = ap out-Instr c.in-While.is ∙ outs-While c.in-While.cond c.in-While.test c.in-While.body in (
      frame_wide c.args.procs.now c.args.frame.now c.enter.new.frame s s c.args.most 1 1 c.requires.some (while_step c.args.procs.now c.args.frame.now c.enter.new.frame c.args.instr.now c.args.next c.in-While.test c.in-While.cond c.in-While.body s c.requires.at e (c.if-not-enter.ensures.yes refl)),
      in_loop_first c.args.frame.now c.enter.new.frame (c.if-not-enter.ensures.yes refl),
      omega arith,
    )

pub run_while-run_list-tested-requires : goal.run_while-run_list-tested-requires
run_while-run_list-tested-requires g t c κs within =
    let i = c.turns.invariant in
    let few = i.0.few in
    let some = i.2 in
    let lt = c.turns-test.true in
    let e = ap out-Instr c.in-While.is ∙ outs-While c.in-While.cond c.in-While.test c.in-While.body in
    (omega arith, (search rules, cond_list c.args.procs.now c.args.frame.now c.turns.frame c.args.instr.now c.args.next c.in-While.test c.in-While.cond c.in-While.body c.as_slice.result.now c.requires.at e i.1 c.as_slice.ensures))

pub run_while-returns-then-leaves : goal.run_while-returns-then-leaves
run_while-returns-then-leaves g t c =
    let k = g.S.Store.kept in
    let i = c.turns.invariant in
    let e = ap out-Instr c.in-While.is ∙ outs-While c.in-While.cond c.in-While.test c.in-While.body in
    loop_left c.args.procs.now c.args.frame.now c.turns.frame c.run_list-tested.new.frame c.leaves.new.frame c.args.instr.now c.args.next c.in-While.test c.args.most c.turns.made c.in-While.cond c.in-While.body c.as_slice.result.now (k c.args.store.now) (k c.turns.store) (k c.run_list-tested.new.store) c.run_list-tested.result
    c.requires.at e c.as_slice.ensures i.0 i.1 c.run_list-tested.ensures (not_not c.run_list-tested.result.through c.if-not-tested.false) c.if-made-most.false (c.if-leaves.ensures.left refl)

pub run_while-run_list-turned-requires : goal.run_while-run_list-turned-requires
run_while-run_list-turned-requires g t c κs within =
    let k = g.S.Store.kept in
    let i = c.turns.invariant in
    let few = i.0.few in
    let some = i.2 in
    let lt = c.turns-test.true in
    let less = c.if-made-most.false in
    let e = ap out-Instr c.in-While.is ∙ outs-While c.in-While.cond c.in-While.test c.in-While.body in
    let r = loop_turned c.args.procs.now c.args.frame.now c.turns.frame c.run_list-tested.new.frame c.leaves.new.frame c.args.instr.now c.args.next c.in-While.test c.args.most c.turns.made c.in-While.cond c.in-While.body c.as_slice.result.now (k c.args.store.now) (k c.turns.store) (k c.run_list-tested.new.store) c.run_list-tested.result
    c.requires.at e c.as_slice.ensures i.0 i.1 c.run_list-tested.ensures (not_not c.run_list-tested.result.through c.if-not-tested.false) c.if-made-most.false (c.if-leaves.ensures.turned refl) in
    (omega arith, (search rules, body_list c.args.procs.now c.args.frame.now c.leaves.new.frame c.args.instr.now c.args.next c.in-While.test c.in-While.cond c.in-While.body c.as_slice-in-turns.result.now c.requires.at e r.1 c.as_slice-in-turns.ensures))

pub run_while-turns-preserved : goal.run_while-turns-preserved
run_while-turns-preserved g t c =
    let k = g.S.Store.kept in
    let i = c.turns.invariant in
    let some = i.2 in
    let e = ap out-Instr c.in-While.is ∙ outs-While c.in-While.cond c.in-While.test c.in-While.body in
    let r = loop_turned c.args.procs.now c.args.frame.now c.turns.frame c.run_list-tested.new.frame c.leaves.new.frame c.args.instr.now c.args.next c.in-While.test c.args.most c.turns.made c.in-While.cond c.in-While.body c.as_slice.result.now (k c.args.store.now) (k c.turns.store) (k c.run_list-tested.new.store) c.run_list-tested.result
    c.requires.at e c.as_slice.ensures i.0 i.1 c.run_list-tested.ensures (not_not c.run_list-tested.result.through c.if-not-tested.false) c.if-made-most.false (c.if-leaves.ensures.turned refl) in
    let x = loop_ended c.args.procs.now c.args.frame.now c.leaves.new.frame c.run_list-turned.new.frame c.turn_to.new.frame c.args.instr.now c.args.next c.in-While.test c.args.most (c.turns.made + c.run_list-tested.result.made + 1) c.in-While.cond c.in-While.body c.as_slice-in-turns.result.now (k c.args.store.now) (k c.run_list-tested.new.store) (k c.run_list-turned.new.store) c.run_list-turned.result
    c.requires.at e c.as_slice-in-turns.ensures r.0 r.1 c.run_list-turned.ensures (not_not c.run_list-turned.result.through c.if-not-turned.false) c.turn_to.ensures in
    (x.0, x.1, omega arith)

pub run_while-returns-after-turns : goal.run_while-returns-after-turns
run_while-returns-after-turns g t c =
    let k = g.S.Store.kept in
    passed_not c.args.procs.now c.args.frame.now c.turns.frame (k c.args.store.now) (k c.turns.store) c.args.most c.turns.made c.args.next c.turns.invariant.0

pub run_while-returns-then-not-tested : goal.run_while-returns-then-not-tested
run_while-returns-then-not-tested g t c =
    let k = g.S.Store.kept in
    let T = c.args.procs.now in
    passed_not T c.args.frame.now c.run_list-tested.new.frame (k c.args.store.now) (k c.run_list-tested.new.store) c.args.most (c.turns.made + c.run_list-tested.result.made) c.args.next
    (and_then T c.args.frame.now c.turns.frame c.run_list-tested.new.frame (k c.args.store.now) (k c.turns.store) (k c.run_list-tested.new.store) c.args.most c.turns.made c.run_list-tested.result.made c.turns.invariant.0 c.run_list-tested.ensures.ran)

pub run_while-returns-then-made-most : goal.run_while-returns-then-made-most
run_while-returns-then-made-most g t c =
    let k = g.S.Store.kept in
    let T = c.args.procs.now in
    passed_not T c.args.frame.now c.run_list-tested.new.frame (k c.args.store.now) (k c.run_list-tested.new.store) c.args.most (c.turns.made + c.run_list-tested.result.made) c.args.next
    (and_then T c.args.frame.now c.turns.frame c.run_list-tested.new.frame (k c.args.store.now) (k c.turns.store) (k c.run_list-tested.new.store) c.args.most c.turns.made c.run_list-tested.result.made c.turns.invariant.0 c.run_list-tested.ensures.ran)

pub run_while-returns-then-not-turned : goal.run_while-returns-then-not-turned
run_while-returns-then-not-turned g t c =
    let k = g.S.Store.kept in
    let T = c.args.procs.now in
    let i = c.turns.invariant in
    let e = ap out-Instr c.in-While.is ∙ outs-While c.in-While.cond c.in-While.test c.in-While.body in
    let r = loop_turned T c.args.frame.now c.turns.frame c.run_list-tested.new.frame c.leaves.new.frame c.args.instr.now c.args.next c.in-While.test c.args.most c.turns.made c.in-While.cond c.in-While.body c.as_slice.result.now (k c.args.store.now) (k c.turns.store) (k c.run_list-tested.new.store) c.run_list-tested.result
    c.requires.at e c.as_slice.ensures i.0 i.1 c.run_list-tested.ensures (not_not c.run_list-tested.result.through c.if-not-tested.false) c.if-made-most.false (c.if-leaves.ensures.turned refl) in
    passed_not T c.args.frame.now c.run_list-turned.new.frame (k c.args.store.now) (k c.run_list-turned.new.store) c.args.most (c.turns.made + c.run_list-tested.result.made + 1 + c.run_list-turned.result.made) c.args.next
    (and_then T c.args.frame.now c.leaves.new.frame c.run_list-turned.new.frame (k c.args.store.now) (k c.run_list-tested.new.store) (k c.run_list-turned.new.store) c.args.most (c.turns.made + c.run_list-tested.result.made + 1) c.run_list-turned.result.made r.0 c.run_list-turned.ensures.ran)
