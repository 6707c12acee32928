use Rattle.std.proofs.Common.{◌≡◌, ◌∙◌, false, arith, sym}
use Rattle.proc_rules.proofs.CallsLemmas.{on_ok, hand_more}
use Rattle.proc_rules.proofs.call.hand.Goals as goal

pub returns-then-not-param : goal.returns-then-not-param
returns-then-not-param c =
    let k : c.args.param.now.kept ≡ false = grind arith in
    on_ok c.push.result (hand_more c.args.param.now c.args.taken.now c.push.new.self c.args.entry (sym c.is_container.ensures ∙ c.if-is_container.true) k) c.push.ensures.ok
