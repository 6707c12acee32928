use Rattle.std.proofs.lemmas.Result.{IfOk-weaker}
use Rattle.fit_steps.proofs.GoingLemmas.{steps_like}
use Rattle.fit_steps.specs.Parts as parts
use Rattle.fits.specs.Follow as f
use Rattle.proof_lines.specs.Lines.{lines_of}
use Rattle.fit_steps.proofs.calling.use_step.Goals as goal

pub returns-in-None-clause-stepped : goal.returns-in-None-clause-stepped
returns-in-None-clause-stepped c = λ V s views is go. c.in-None.ensures _

pub returns-in-Some-clause-stepped : goal.returns-in-Some-clause-stepped
returns-in-Some-clause-stepped c =
    let R = c.args.regs in
    let o = c.args.calling.now in
    let code = c.args.rest.code.now in
    let ls = lines_of c.args.rest.lines.now in
    let rest = lines_of c.in-Some.lines.now in
    IfOk-weaker c.use_values.result _ _ (λ r h V s views is.
    steps_like R c.use_values.new.state ls (λ go. f.use_step R V s code ls o.place o.outs.now o.fun o.args.now go) (parts.use_values R V s code ls rest o.place o.outs.now o.fun o.args.now) r
    (λ go. c.in-Some.ensures _) (h V s ls views is)) c.use_values.ensures.stepped
