use Rattle.std.proofs.lemmas.Result.{IfOk-weaker}
use Rattle.fit_steps.proofs.GoingLemmas.{steps_like}
use Rattle.fit_steps.specs.Parts as parts
use Rattle.fits.specs.Follow as f
use Rattle.proof_lines.specs.Lines.{lines_of}
use Rattle.fit_steps.proofs.calc.calc_step.Goals as goal

pub returns-in-None-clause-stepped : goal.returns-in-None-clause-stepped
returns-in-None-clause-stepped c = λ V s is go. c.in-None.ensures _

pub returns-in-Some-clause-stepped : goal.returns-in-Some-clause-stepped
returns-in-Some-clause-stepped c =
    let R = c.args.regs in
    let k = c.args.calculation.now in
    let code = c.args.rest.code.now in
    let ls = lines_of c.args.rest.lines.now in
    let rest = lines_of c.in-Some.lines.now in
    IfOk-weaker c.calc_values.result _ _ (λ r h V s is.
    steps_like R c.calc_values.new.state ls (λ go. f.calc_step R V s code ls k.place k.to k.word k.left k.right go) (parts.calc_values R V s code ls rest k.place k.to k.word k.left k.right) r
    (λ go. c.in-Some.ensures _) (h V s ls is)) c.calc_values.ensures.stepped
