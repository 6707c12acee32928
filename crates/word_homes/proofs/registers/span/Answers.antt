use Rattle.std.proofs.Common.{refl}
use Rattle.word_homes.proofs.SpanLemmas.{span_step}
use Rattle.word_homes.proofs.registers.span.Goals as goal

pub each-preserved : goal.each-preserved
each-preserved c = span_step c.each.regs c.push.new.self _ c.each.next c.in_ok-next.next _ c.each.counter c.args.count c.each-test.true c.each.invariant c.in_ok-push.ensures.ok c.in_ok-next.ensures refl
