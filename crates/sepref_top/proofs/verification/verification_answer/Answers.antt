use Rattle.sepref_top.proofs.Verifying as verifying
use Rattle.sepref_top.proofs.verification.verification_answer.Goals as goal

pub returns : goal.returns
returns g c = verifying.of_answer c.args.text.now c.in_ok-verdict.verdict c.in_ok-verdict.ensures c.verdict_answer.result c.verdict_answer.ensures
