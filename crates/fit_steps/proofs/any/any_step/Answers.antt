use Rattle.std.proofs.lemmas.Result.{IfOk-weaker}
use Rattle.fit_steps.proofs.GoingLemmas.{steps_like}
use Rattle.fit_steps.specs.Parts as parts
use Rattle.fits.specs.Follow as f
use Rattle.proof_lines.specs.Lines.{lines_of}
use Rattle.fit_steps.proofs.any.any_step.Goals as goal

pub returns-in-None-clause-stepped : goal.returns-in-None-clause-stepped
returns-in-None-clause-stepped c = λ V s is go. c.in-None.ensures _

pub returns-in-Some-clause-stepped : goal.returns-in-Some-clause-stepped
returns-in-Some-clause-stepped c =
    let R = c.args.regs in
    let o = c.args.choice.now in
    let code = c.args.rest.code.now in
    let ls = lines_of c.args.rest.lines.now in
    let any = c.in-Some.any in
    IfOk-weaker c.any_low.result _ _ (λ r h V s is.
    steps_like R c.any_low.new.state ls (λ go. f.any_step R V s code ls o.out o.low o.high go) (parts.any_low R V s code ls (lines_of any.rest.now) o.out o.low o.high any.reg) r
    (λ go. c.in-Some.ensures _) (h V s ls is)) c.any_low.ensures.stepped
