use Rattle.std.proofs.Common.{◌∙◌, sym}
use Rattle.proc_rules.proofs.CallsLemmas.{stand_empty}
use Rattle.proc_rules.proofs.call.stand_for.Goals as goal

pub returns-in-empty : goal.returns-in-empty
returns-in-empty c = sym (stand_empty c.args.entries.now c.each.entry-index c.each.left.now c.each-test.true c.in-empty.len_below) ∙ c.each.invariant
