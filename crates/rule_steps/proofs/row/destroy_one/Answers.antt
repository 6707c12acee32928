use Rattle.rule_steps.proofs.RowsLemmas.{then_ok, destroyed_more}
use Rattle.rule_steps.proofs.row.destroy_one.Goals as goal

pub returns-in-Destroyed : goal.returns-in-Destroyed
returns-in-Destroyed c =
    then_ok c.push.result (destroyed_more c.args.fate c.args.destroyed.now c.push.new.self c.args.entry c.in-Destroyed.is) c.push.ensures.ok
