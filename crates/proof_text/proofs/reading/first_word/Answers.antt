use Rattle.proof_text.proofs.Guessing.{cut_some, cut_none}
use Rattle.proof_text.proofs.reading.first_word.Goals as goal

pub returns-in-Some : goal.returns-in-Some
returns-in-Some c = cut_some c.args.text.now c.in-Some.parts.0.now c.in-Some.parts.1.now c.in-Some.ensures.some.0 c.in-Some.ensures.some.1

pub returns-in-None : goal.returns-in-None
returns-in-None c = cut_none c.args.text.now c.in-None.ensures.none
