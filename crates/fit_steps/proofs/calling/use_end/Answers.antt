use Rattle.fit_state.specs.Infos.{infos_of}
use Rattle.fit_steps.proofs.GoingLemmas.{end_false, end_true, ok_fails}
use Rattle.fit_steps.specs.Parts.{use_needs, use_next}
use Rattle.fits.specs.Places.{ctx_of}
use Rattle.proc_rules.specs.Calls.{sig_view}
use Rattle.rule_check.specs.Steps.{call_sure}
use Rattle.fit_steps.proofs.calling.use_end.Goals as goal

pub returns-in-None-clause-stepped : goal.returns-in-None-clause-stepped
returns-in-None-clause-stepped c = λ V s ls stands is go.
    let o = c.args.call.now.calling in
    ok_fails (call_sure V.book (ctx_of s) o.place o.fun o.args.now) ls _ (λ y. c.in-None.ensures ls _)

pub returns-then-branch-clause-stepped : goal.returns-then-branch-clause-stepped
returns-then-branch-clause-stepped c = λ V s ls stands is.
    let a = c.args.call.now in
    let o = a.calling in
    let at = c.in-Some.at in
    let k = c.in_ok-use_here-in-Some.ensures.used V s stands is in
    let needs = use_needs a.regs s o.outs.now o.fun o.args.now (infos_of a.infos.now) (sig_view a.sig) at.to.now at.name.now at.args.now in
    record {
      next = use_next s o.outs.now o.args.now (infos_of a.infos.now) (sig_view a.sig) at.to.now;
      is = k.next c.if-branch.true;
      on = λ go. end_true (call_sure V.book (ctx_of s) o.place o.fun o.args.now) _ needs ls _ _ (λ y. c.in-Some.ensures ls _) k.tested c.if-branch.true;
    }

pub returns-else-branch-clause-stepped : goal.returns-else-branch-clause-stepped
returns-else-branch-clause-stepped c = λ V s ls stands is go.
    let a = c.args.call.now in
    let o = a.calling in
    let at = c.in-Some.at in
    let k = c.in_ok-use_here-in-Some.ensures.used V s stands is in
    let needs = use_needs a.regs s o.outs.now o.fun o.args.now (infos_of a.infos.now) (sig_view a.sig) at.to.now at.name.now at.args.now in
    end_false (call_sure V.book (ctx_of s) o.place o.fun o.args.now) _ needs ls _ _ (λ y. c.in-Some.ensures ls _) k.tested c.if-branch.false
