use Rattle.std.proofs.lemmas.Result.{IfOk-weaker}
use Rattle.fit_state.specs.Infos.{infos_of}
use Rattle.fit_steps.proofs.GoingLemmas.{steps_like}
use Rattle.fit_steps.specs.Parts as parts
use Rattle.fits.specs.Follow as f
use Rattle.proof_lines.specs.Lines.{lines_of}
use Rattle.fit_steps.proofs.register.register_step.Goals as goal

pub returns-in-None-clause-stepped : goal.returns-in-None-clause-stepped
returns-in-None-clause-stepped c = λ V s stands by is go. c.in-None.ensures _

pub returns-in-Some-clause-stepped : goal.returns-in-Some-clause-stepped
returns-in-Some-clause-stepped c =
    let a = c.args.applying.now in
    let o = a.operation in
    let code = c.args.rest.code.now in
    let ls = lines_of c.args.rest.lines.now in
    let rest = lines_of c.in-Some.lines.now in
    IfOk-weaker c.register_here.result _ _ (λ r h V s stands by is.
    steps_like a.regs c.register_here.new.state ls (λ go. f.reg_step a.regs V s code ls o.place o.outs.now o.op o.made o.args.now (infos_of a.infos.now) c.args.index go)
    (parts.register_at V s code ls rest o.place o.outs.now o.op o.made o.args.now (infos_of a.infos.now) c.args.index) r
    (λ go. c.in-Some.ensures _) (h V s ls stands by is)) c.register_here.ensures.stepped
