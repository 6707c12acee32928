use Rattle.std.proofs.Common.{true, false, subst}
use Rattle.fit_blocks.specs.Asserts.{Asserted}
use Rattle.fit_walk.proofs.PlainLemmas.{assert_goes, assert_stays}
use Rattle.nres_core.specs.FlatTree.{binds_of}
use Rattle.fit_walk.proofs.plain.step_assert.Goals as goal

pub returns-then-branch-clause-stepped : goal.returns-then-branch-clause-stepped
returns-then-branch-clause-stepped c = λ R V s p at.
    let inner = binds_of c.args.inner.now in
    let new = c.assert_step.new.state in
    assert_goes R V s p inner c.args.test new c.args.rest (subst (Asserted R s inner c.args.test new) c.if-branch.true (c.in_ok-assert_step.ensures.asserted R s at.is))

pub returns-else-branch-clause-stepped : goal.returns-else-branch-clause-stepped
returns-else-branch-clause-stepped c = λ R V s p at.
    let inner = binds_of c.args.inner.now in
    let new = c.assert_step.new.state in
    assert_stays R V s p inner c.args.test new c.args.rest (subst (Asserted R s inner c.args.test new) c.if-branch.false (c.in_ok-assert_step.ensures.asserted R s at.is))
