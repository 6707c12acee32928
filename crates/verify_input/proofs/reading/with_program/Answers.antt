use Rattle.std.proofs.Common.{◌≡◌, ◌∙◌, ap, sym, Err}
use Rattle.verify_input.specs.declared.reading.Unverified.TheVariants as un
use Rattle.verify_input.proofs.Parts.{memory_is, not_of_memory, of_unread, unread_is, with_text}
use Rattle.verify_input.proofs.reading.with_program.Goals as goal

pub returns-in-Ok-clause-ok : goal.returns-in-Ok-clause-ok
returns-in-Ok-clause-ok c =
    with_text c.args.found.0 c.args.found.1 c.args.proof_part.now c.args.program_part.now c.in-Ok.program c.in-Ok.ensures.ok.0 c.in-Ok.ensures.ok.1 c.with_proof.result c.with_proof.ensures.ok

pub returns-in-Ok-clause-not_program : goal.returns-in-Ok-clause-not_program
returns-in-Ok-clause-not_program c = λ k e. absurd (not_of_memory c.with_proof.result k c.with_proof.ensures.memory e)

pub returns-in-Ok-clause-others : goal.returns-in-Ok-clause-others
returns-in-Ok-clause-others c = memory_is c.with_proof.result c.with_proof.ensures.memory

pub returns-in-Err-clause-not_program : goal.returns-in-Err-clause-not_program
returns-in-Err-clause-not_program c = λ k e.
    let same : c.no_program.result ≡ un.NotProgram k = cc e in
    of_unread c.args.program_part.now c.in-Err.refusal (λ j f. c.read_program.ensures.line j (c.in-Err.is ∙ ap Err f)) k (sym c.no_program.ensures ∙ same)

pub returns-in-Err-clause-others : goal.returns-in-Err-clause-others
returns-in-Err-clause-others c = unread_is c.in-Err.refusal c.no_program.result c.no_program.ensures
