use Rattle.std.proofs.Common.{sym, subst, ◌∙◌}
use Rattle.fit_blocks.proofs.EndingLemmas.{with_met, with_refused, with_unmet}
use Rattle.fit_blocks.specs.Endings.{MovedOut}
use Rattle.fit_state.specs.Infos.{infos_of}
use Rattle.nres_core.specs.FlatTree.{flats_of}
use Rattle.ownership.specs.Entries.{shapes_of}
use Rattle.fit_blocks.proofs.ending.end_with.Goals as goal

pub returns-then-not-branch-clause-over : goal.returns-then-not-branch-clause-over
returns-then-not-branch-clause-over c = λ V s views is args.
    with_unmet c.args.frame.now.regs V c.args.ends.now (flats_of c.args.block.now).ending s (infos_of c.args.infos.now) (sym (c.in_ok-is_met.ensures c.args.frame.now.regs s is) ∙ c.if-not-branch.true)

pub returns-in_ok-shapes-clause-over : goal.returns-in_ok-shapes-clause-over
returns-in_ok-shapes-clause-over c = λ V s views is args.
    with_met c.args.frame.now.regs V c.args.ends.now (flats_of c.args.block.now).ending s (infos_of c.args.infos.now) c.move_out.new.state (shapes_of c.in_ok-shapes.shapes) (sym (c.in_ok-is_met.ensures c.args.frame.now.regs s is) ∙ c.if-not-branch.false)
    (subst (MovedOut c.args.frame.now.regs V c.args.ends.now (flats_of c.args.block.now).ending s (infos_of c.args.infos.now) c.move_out.new.state) c.if-branch.true (c.in_ok-move_out.ensures.moved V s views is (infos_of c.args.infos.now) args)) args c.in_ok-shapes.ensures

pub returns-else-branch-clause-over : goal.returns-else-branch-clause-over
returns-else-branch-clause-over c = λ V s views is args.
    with_refused c.args.frame.now.regs V c.args.ends.now (flats_of c.args.block.now).ending s (infos_of c.args.infos.now)
    (subst (MovedOut c.args.frame.now.regs V c.args.ends.now (flats_of c.args.block.now).ending s (infos_of c.args.infos.now) c.move_out.new.state) c.if-branch.false (c.in_ok-move_out.ensures.moved V s views is (infos_of c.args.infos.now) args))
