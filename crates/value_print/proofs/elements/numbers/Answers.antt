use Rattle.value_print.proofs.Joined.{numbers_ended}
use Rattle.value_print.proofs.elements.numbers.Goals as goal

pub returns-after-each : goal.returns-after-each
returns-after-each c = rw (c.each.invariant, c.in_ok-push_number.ensures) (numbers_ended c.args.out.now.items c.args.list.now c.each.other-index c.in-len1-up.len_at_least c.each-test.false)
