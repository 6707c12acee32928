use Rattle.rule_steps.proofs.RowsLemmas.{then_ok, shapes_more}
use Rattle.rule_steps.proofs.row.give_one.Goals as goal

pub returns : goal.returns
returns c = then_ok c.push.result (shapes_more c.args.shapes.now c.push.new.self c.args.shape) c.push.ensures.ok
