use Rattle.branch_exec.proofs.FrameRuns.{frame_wide, on_done, on_tested}
use Rattle.branch_exec.proofs.straight.run_on.Goals as goal

pub returns-in-Do-clause-ran : goal.returns-in-Do-clause-ran
returns-in-Do-clause-ran g c =
    let k = g.S.Store.kept in
    let h = c.in-Do.ensures in
    on_done c.args.procs.now c.args.frame.now c.run_instr.new.frame c.settle.new.outer c.settle.new.index c.args.most c.run_instr.result.made c.code_of.result.now (k c.args.store.now) (k c.run_instr.new.store) c.code_of.ensures h.kept c.run_instr.ensures.ran

pub returns-in-Test-clause-ran : goal.returns-in-Test-clause-ran
returns-in-Test-clause-ran g c =
    let h = c.in-Test.ensures in
    let s = g.S.Store.kept c.args.store.now in
    frame_wide c.args.procs.now c.args.frame.now c.test.new.frame s s c.args.most 1 1 c.requires
    (on_tested c.args.procs.now c.args.frame.now c.test.new.frame c.settle.new.outer c.settle.new.index c.in-Test.register c.in-Test.next c.code_of.result.now s c.code_of.ensures h.kept h.next c.test.ensures)
