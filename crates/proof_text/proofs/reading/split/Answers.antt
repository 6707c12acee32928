use Rattle.proof_text.proofs.Guessing.{split_some}
use Rattle.proof_text.proofs.reading.split.Goals as goal

pub returns-in-Some-clause-guess : goal.returns-in-Some-clause-guess
returns-in-Some-clause-guess c =
    split_some c.args.bytes.now c.in-Some.before.now c.in-Some.behind.now c.register-from.result c.register-at.result c.in-Some.ensures.some.0 c.in-Some.ensures.some.1 c.register-from.ensures.value c.register-at.ensures.value
