use Rattle.std.proofs.Common.{◌∙◌, List, ap, sym}
use Rattle.std.proofs.lemmas.Result.{IfOk-weaker}
use Rattle.fit_state.specs.Infos.{infos_of}
use Rattle.fit_steps.proofs.GoingLemmas.{steps_like}
use Rattle.fit_steps.specs.Parts as parts
use Rattle.fits.specs.Follow as f
use Rattle.fits.specs.Follow.{Answer, Line}
use Rattle.proof_lines.specs.Lines.{lines_of}
use Rattle.rule_check.specs.Rows.{rule_of}
use Rattle.fit_steps.proofs.row.call_step.Goals as goal

pub returns-in-None-clause-stepped : goal.returns-in-None-clause-stepped
returns-in-None-clause-stepped c = λ V s stands is go.
    let a = c.args.applying.now in
    let o = a.operation in
    let code = c.args.rest.code.now in
    let ls = lines_of c.args.rest.lines.now in
    let k : List Line → Answer = λ rest. parts.call_between a.regs V s code ls rest o.place o.outs.now o.op o.made o.args.now (infos_of a.infos.now) (rule_of a.row) c.args.name go in
    ap (λ name. f.on_row_line ls name k) (ap (λ lib. lib c.args.name) stands.library ∙ sym c.lib_name.ensures) ∙ c.in-None.ensures k

pub returns-in-Some-clause-stepped : goal.returns-in-Some-clause-stepped
returns-in-Some-clause-stepped c =
    let a = c.args.applying.now in
    let o = a.operation in
    let code = c.args.rest.code.now in
    let ls = lines_of c.args.rest.lines.now in
    let rest = lines_of c.in-Some.lines.now in
    IfOk-weaker c.call_between.result _ _ (λ r h V s stands is.
    steps_like a.regs c.call_between.new.state ls (λ go. f.call_step a.regs V s code ls o.place o.outs.now o.op o.made o.args.now (infos_of a.infos.now) (rule_of a.row) c.args.name go)
    (parts.call_between a.regs V s code ls rest o.place o.outs.now o.op o.made o.args.now (infos_of a.infos.now) (rule_of a.row) c.args.name) r
    (λ go.
    let k : List Line → Answer = λ rest. parts.call_between a.regs V s code ls rest o.place o.outs.now o.op o.made o.args.now (infos_of a.infos.now) (rule_of a.row) c.args.name go in
    ap (λ name. f.on_row_line ls name k) (ap (λ lib. lib c.args.name) stands.library ∙ sym c.lib_name.ensures) ∙ c.in-Some.ensures k) (h V s ls stands is)) c.call_between.ensures.stepped
