use Rattle.body_rules.proofs.TextsLemmas.{text_in_order}
use Rattle.body_rules.proofs.laws.text_in_order.Goals as goal

pub returns : goal.returns
returns c = text_in_order
