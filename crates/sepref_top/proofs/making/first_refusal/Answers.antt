use Rattle.sepref_top.proofs.Rules as rules
use Rattle.sepref_top.proofs.making.first_refusal.Goals as goal

pub returns : goal.returns
returns c = rules.say c.args.spec.now c.in_ok-flat.flat c.check_rules.result c.in_ok-flat.ensures c.check_rules.ensures
