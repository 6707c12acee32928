use Rattle.std.proofs.Common.{ap, Err, ◌∙◌}
use Rattle.sepref_verify.proofs.Promised.{of_input, of_none}
use Rattle.sepref_verify.proofs.saying.verify_text.Goals as goal

pub returns-in-Ok : goal.returns-in-Ok
returns-in-Ok g c = of_input c.args.text.now c.in-Ok.input c.in-Ok.ensures.ok c.input_verdict.result c.input_verdict.ensures

pub returns-in-Err : goal.returns-in-Err
returns-in-Err g c =
    let r = c.read_verification.ensures in
    of_none c.args.text.now c.in-Err.why
    (λ q e. r.syntax q (c.in-Err.is ∙ ap Err e)) (λ q e. r.too_deep q (c.in-Err.is ∙ ap Err e)) (λ u e. r.untyped u (c.in-Err.is ∙ ap Err e)) (λ k e. r.not_program k (c.in-Err.is ∙ ap Err e))
    c.unverified.result c.unverified.ensures
