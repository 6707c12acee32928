use Rattle.std.proofs.Common.{◌≡◌, ◌∙◌, ap, subst, Err}
use Rattle.verify_input.specs.Verifications.{IsUntyped, StopsAt, StopsDeep}
use Rattle.verify_input.specs.declared.reading.Unverified.TheVariants as un
use Rattle.verify_input.proofs.Parts.{no_program_is, others_are, whole_is}
use Rattle.verify_input.proofs.reading.read_verification.Goals as goal

pub returns-in-Ok-clause-ok : goal.returns-in-Ok-clause-ok
returns-in-Ok-clause-ok c =
    whole_is c.args.text.now _ _ _ c.parts-cut.ensures.spec c.parts-cut.ensures.program c.parts-cut.ensures.proof c.in-Ok.found.0 c.in-Ok.found.1 c.in-Ok.ensures.ok c.with_program.result c.with_program.ensures.ok

pub returns-in-Ok-clause-syntax : goal.returns-in-Ok-clause-syntax
returns-in-Ok-clause-syntax c = λ q e. absurd (others_are c.with_program.result (un.Syntax q) c.with_program.ensures.others e)

pub returns-in-Ok-clause-too_deep : goal.returns-in-Ok-clause-too_deep
returns-in-Ok-clause-too_deep c = λ q e. absurd (others_are c.with_program.result (un.TooDeep q) c.with_program.ensures.others e)

pub returns-in-Ok-clause-untyped : goal.returns-in-Ok-clause-untyped
returns-in-Ok-clause-untyped c = λ r e. absurd (others_are c.with_program.result (un.Untyped r) c.with_program.ensures.others e)

pub returns-in-Ok-clause-not_program : goal.returns-in-Ok-clause-not_program
returns-in-Ok-clause-not_program c = λ k e.
    no_program_is c.args.text.now _ _ _ c.parts-cut.ensures.spec c.parts-cut.ensures.program c.parts-cut.ensures.proof c.in-Ok.found.0 c.in-Ok.found.1 c.in-Ok.ensures.ok k (c.with_program.ensures.not_program k e)

pub returns-in-Err-clause-syntax : goal.returns-in-Err-clause-syntax
returns-in-Err-clause-syntax c = λ q e.
    let same : c.in-Err.why ≡ un.Syntax q = cc e in
    subst (λ p. StopsAt p q) c.parts-cut.ensures.spec (c.read_typed.ensures.syntax q (c.in-Err.is ∙ ap Err same))

pub returns-in-Err-clause-too_deep : goal.returns-in-Err-clause-too_deep
returns-in-Err-clause-too_deep c = λ q e.
    let same : c.in-Err.why ≡ un.TooDeep q = cc e in
    subst (λ p. StopsDeep p q) c.parts-cut.ensures.spec (c.read_typed.ensures.too_deep q (c.in-Err.is ∙ ap Err same))

pub returns-in-Err-clause-untyped : goal.returns-in-Err-clause-untyped
returns-in-Err-clause-untyped c = λ r e.
    let same : c.in-Err.why ≡ un.Untyped r = cc e in
    subst (λ p. IsUntyped p r) c.parts-cut.ensures.spec (c.read_typed.ensures.untyped r (c.in-Err.is ∙ ap Err same))

pub returns-in-Err-clause-not_program : goal.returns-in-Err-clause-not_program
returns-in-Err-clause-not_program c = λ k e.
    let same : c.in-Err.why ≡ un.NotProgram k = cc e in
    absurd (c.read_typed.ensures.no_line k (c.in-Err.is ∙ ap Err same))
