use Rattle.fit_state.specs.Infos.{infos_of}
use Rattle.fit_steps.proofs.GoingLemmas.{end_false, end_true, ok_fails}
use Rattle.fit_steps.specs.Parts.{call_needs, call_next}
use Rattle.fits.specs.Places.{ctx_of}
use Rattle.rule_check.specs.Rows.{rule_of}
use Rattle.rule_check.specs.Steps.{apply_sure}
use Rattle.fit_steps.proofs.row.call_end.Goals as goal

pub returns-in-None-clause-stepped : goal.returns-in-None-clause-stepped
returns-in-None-clause-stepped c = λ V s ls stands is go.
    let a = c.args.applying.now in
    let o = a.operation in
    ok_fails (apply_sure V.book (ctx_of s) o.place o.op o.made o.args.now) ls _ (λ y. c.in-None.ensures ls _)

pub returns-then-branch-clause-stepped : goal.returns-then-branch-clause-stepped
returns-then-branch-clause-stepped c = λ V s ls stands is.
    let a = c.args.applying.now in
    let o = a.operation in
    let at = c.in-Some.at in
    let k = c.in_ok-call_here-in-Some.ensures.called V s stands is in
    let needs = call_needs a.regs V s o.outs.now o.made o.args.now (infos_of a.infos.now) (rule_of a.row) c.args.name at.to.now at.name.now at.args.now in
    record {
      next = call_next s o.outs.now o.made o.args.now (infos_of a.infos.now) (rule_of a.row) at.to.now;
      is = k.next c.if-branch.true;
      on = λ go. end_true (apply_sure V.book (ctx_of s) o.place o.op o.made o.args.now) _ needs ls _ _ (λ y. c.in-Some.ensures ls _) k.tested c.if-branch.true;
    }

pub returns-else-branch-clause-stepped : goal.returns-else-branch-clause-stepped
returns-else-branch-clause-stepped c = λ V s ls stands is go.
    let a = c.args.applying.now in
    let o = a.operation in
    let at = c.in-Some.at in
    let k = c.in_ok-call_here-in-Some.ensures.called V s stands is in
    let needs = call_needs a.regs V s o.outs.now o.made o.args.now (infos_of a.infos.now) (rule_of a.row) c.args.name at.to.now at.name.now at.args.now in
    end_false (apply_sure V.book (ctx_of s) o.place o.op o.made o.args.now) _ needs ls _ _ (λ y. c.in-Some.ensures ls _) k.tested c.if-branch.false
