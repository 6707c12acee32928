use Rattle.std.proofs.Common.{arith}
use Rattle.fits.specs.Follow as f
use Rattle.fit_state.proofs.HeldLemmas.{grows_then}
use Rattle.fit_state.proofs.PassLemmas.{at_start, grows_same}
use Rattle.fit_state.proofs.RestLemmas.{all_moved, all_stopped, all_failed, all_ended}
use Rattle.fit_state.proofs.passing.pass_all.Goals as goal

pub each-init : goal.each-init
each-init c = record {
  reached = λ V s h. at_start c.args.regs s c.args.state.now (λ u. f.pass_all c.args.regs V u c.args.code.now) h;
  grows = grows_same c.args.state.now;
}

pub each-preserved : goal.each-preserved
each-preserved c = record {
  reached = λ V s h.
      all_moved c.args.regs V s c.each.state c.pass_one.new.state (f.pass_all c.args.regs V s c.args.code.now) c.each.rest.now c.first-item.result c.in_ok-pass_one.field-0 c.in-len1-up.len_at_least c.first-item.is (c.in_ok-pass_one.ensures.step) c.in-Passed.is (c.each.invariant.reached V s h);
  grows = grows_then c.args.state.now c.each.state c.pass_one.new.state c.each.invariant.grows c.in_ok-pass_one.ensures.grows;
}

pub returns-in-Stops-clause-passed : goal.returns-in-Stops-clause-passed
returns-in-Stops-clause-passed c = λ V s h.
    all_stopped c.args.regs V s c.each.state c.pass_one.new.state (f.pass_all c.args.regs V s c.args.code.now) c.each.rest.now c.first-item.result c.in_ok-pass_one.field-0 c.in-len1-up.len_at_least c.first-item.is c.in_ok-pass_one.ensures.step c.in-Stops.is (c.each.invariant.reached V s h)

pub returns-in-Stops-clause-grows : goal.returns-in-Stops-clause-grows
returns-in-Stops-clause-grows c = grows_then c.args.state.now c.each.state c.pass_one.new.state c.each.invariant.grows c.in_ok-pass_one.ensures.grows

pub returns-in-Fails-clause-passed : goal.returns-in-Fails-clause-passed
returns-in-Fails-clause-passed c = λ V s h.
    all_failed c.args.regs V s c.each.state c.pass_one.new.state (f.pass_all c.args.regs V s c.args.code.now) c.each.rest.now c.first-item.result c.in_ok-pass_one.field-0 c.in-len1-up.len_at_least c.first-item.is c.in_ok-pass_one.ensures.step c.in-Fails.is (c.each.invariant.reached V s h)

pub returns-in-Fails-clause-grows : goal.returns-in-Fails-clause-grows
returns-in-Fails-clause-grows c = grows_then c.args.state.now c.each.state c.pass_one.new.state c.each.invariant.grows c.in_ok-pass_one.ensures.grows

pub returns-clause-passed : goal.returns-clause-passed
returns-clause-passed c = λ V s h. all_ended c.args.regs V s c.each.state (f.pass_all c.args.regs V s c.args.code.now) c.each.rest.now (omega arith) (c.each.invariant.reached V s h)
