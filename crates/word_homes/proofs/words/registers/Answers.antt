use Rattle.std.proofs.Common.{refl}
use Rattle.word_homes.proofs.SpanLemmas.{words_step}
use Rattle.word_homes.proofs.words.registers.Goals as goal

pub each-preserved : goal.each-preserved
each-preserved c = words_step c.each.words c.push.new.self _ c.each.next c.in_ok-next.next _ c.each.counter c.args.count c.each-test.true c.each.invariant c.in_ok-push.ensures.ok c.in_ok-next.ensures refl
