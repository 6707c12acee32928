use Rattle.std.proofs.Common.{sym, subst}
use Rattle.std.proofs.lemmas.Result.{IfOk-weaker}
use Rattle.fit_state.specs.Infos.{infos_of}
use Rattle.fit_steps.specs.Going.{Steps}
use Rattle.fits.specs.Follow as f
use Rattle.proof_lines.specs.Lines.{lines_of}
use Rattle.rule_check.specs.Rows.{rule_of}
use Rattle.fit_steps.proofs.row.row_step.Goals as goal

pub returns-in-Register-clause-stepped : goal.returns-in-Register-clause-stepped
returns-in-Register-clause-stepped c =
    let a = c.args.applying.now in
    let o = a.operation in
    let code = c.args.rest.code.now in
    let ls = lines_of c.args.rest.lines.now in
    IfOk-weaker c.register_step.result _ _ (λ r h V s stands is.
    subst (λ x. Steps a.regs c.register_step.new.state ls (λ go. f.row_step a.regs V s code ls o.place o.outs.now o.op o.made o.args.now (infos_of a.infos.now) (rule_of a.row) x go) r) (sym c.in-Register.is) (h V s stands c.in-Register.is is))
    c.register_step.ensures.stepped

pub returns-in-Proc-clause-stepped : goal.returns-in-Proc-clause-stepped
returns-in-Proc-clause-stepped c =
    let a = c.args.applying.now in
    let o = a.operation in
    let code = c.args.rest.code.now in
    let ls = lines_of c.args.rest.lines.now in
    IfOk-weaker c.call_step.result _ _ (λ r h V s stands is.
    subst (λ x. Steps a.regs c.call_step.new.state ls (λ go. f.row_step a.regs V s code ls o.place o.outs.now o.op o.made o.args.now (infos_of a.infos.now) (rule_of a.row) x go) r) (sym c.in-Proc.is) (h V s stands is))
    c.call_step.ensures.stepped
